pub mod Commands
pub mod Steps
pub mod Watching

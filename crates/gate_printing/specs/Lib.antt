pub mod Watching
pub mod inner

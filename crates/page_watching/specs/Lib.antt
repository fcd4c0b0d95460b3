pub mod Places
pub mod Causes
pub mod Watching

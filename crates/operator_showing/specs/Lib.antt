pub mod Choosing
pub mod Shown
pub mod Followed

pub mod Standing
pub mod Pages
pub mod Turns
pub mod Waiting
pub mod inner

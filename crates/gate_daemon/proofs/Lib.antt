pub mod Merged
pub mod Drained
pub mod Held
pub mod Shown
pub mod Started

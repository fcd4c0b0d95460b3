pub mod Faults
pub mod Restored
pub mod Stopped
pub mod inner

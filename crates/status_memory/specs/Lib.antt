pub mod Alarm
pub mod Memory
pub mod History
pub mod inner

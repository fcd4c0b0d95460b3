pub mod Numbers
pub mod Stops
pub mod Work
pub mod Answered
pub mod Collecting
pub mod Joining
pub mod Served
pub mod inner

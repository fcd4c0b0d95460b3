pub mod Answers
pub mod Hosts
pub mod Refusals
pub mod Times

pub mod Names
pub mod Bodies
pub mod Times

pub mod Numbering
pub mod Sessions
pub mod Closes
pub mod Tables
pub mod Working
pub mod Clients
pub mod Ended

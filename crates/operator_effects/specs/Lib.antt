pub mod Commands
pub mod Endings
pub mod Messages
pub mod Plain
pub mod Refusals

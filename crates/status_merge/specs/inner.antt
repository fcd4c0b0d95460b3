pub mod Hosts
pub mod Views
pub mod Names
pub mod Among

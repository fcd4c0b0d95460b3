pub mod Calls
pub mod Outputs

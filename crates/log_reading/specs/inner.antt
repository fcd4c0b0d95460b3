pub mod Gives
pub mod Lines

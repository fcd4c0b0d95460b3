pub mod Clocked
pub mod Readers

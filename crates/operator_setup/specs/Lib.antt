pub mod Fault
pub mod Pages
pub mod Places

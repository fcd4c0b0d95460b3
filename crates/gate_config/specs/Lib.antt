pub mod Keys
pub mod Check
pub mod Values
pub mod Document
pub mod Config
pub mod Fault

pub mod Names
pub mod Foreseen
pub mod Effects
pub mod Changes
pub mod inner

pub mod Readings
pub mod PartingLaws

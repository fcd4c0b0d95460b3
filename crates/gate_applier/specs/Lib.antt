pub mod inner
pub mod Applier

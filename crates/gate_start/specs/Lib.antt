pub mod Kept
pub mod Lent
pub mod AfterServing
pub mod BeforeServing
pub mod Fault
pub mod inner

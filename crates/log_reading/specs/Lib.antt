pub mod Log
pub mod Faults
pub mod Gateway
pub mod inner

pub mod Search
pub mod Faults
pub mod Book
pub mod Standing
pub mod inner

pub mod Search
pub mod Book
pub mod Standing
pub mod Faults
pub mod inner

pub mod ObjectStatus
pub mod Book
pub mod Standing
pub mod inner

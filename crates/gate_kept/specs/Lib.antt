pub mod Kept
pub mod Written
pub mod Pieces
pub mod First
pub mod inner

pub mod Summary
pub mod Lines
pub mod inner

pub mod Writing
pub mod Labels

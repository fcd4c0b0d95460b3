-- For proofs and private functions alone.
pub mod Reading
pub mod Commands

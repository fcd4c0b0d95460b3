-- For proofs and private functions alone.
pub mod Rows

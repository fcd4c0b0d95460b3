-- For proofs and private functions alone.
pub mod Carrying
pub mod Repeating

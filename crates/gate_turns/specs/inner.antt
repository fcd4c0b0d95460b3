-- For proofs and private functions alone.
pub mod Counts
pub mod Firsts

-- Only proofs and private functions use what stands below.
pub mod Writes
pub mod BlockRefs

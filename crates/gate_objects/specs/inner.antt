-- Only proofs and private functions use what stands here.
pub mod Placing

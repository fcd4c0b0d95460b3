-- For proofs and private functions alone.
pub mod Numbers
pub mod Reading

-- Only proofs and private functions use these.
pub mod Parsing
pub mod Playing
pub mod Sessions
pub mod Examples

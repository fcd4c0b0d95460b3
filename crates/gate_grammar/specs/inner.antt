-- Only proofs and private functions use these files.
pub mod Values
pub mod Answers
pub mod Written
pub mod Names

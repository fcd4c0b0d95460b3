-- Definitions that only proofs and private functions use.
pub mod Keys
pub mod NamedObjects
pub mod TableBuilder

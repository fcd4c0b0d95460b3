-- Only proofs and private functions use what stands here.
pub mod Sizes
pub mod Rows
pub mod Gone
pub mod Ids
pub mod Live
pub mod Tally
pub mod Links
pub mod Walk
pub mod Pruning
pub mod Scheduling
pub mod Cancel
pub mod Chains
pub mod Inside

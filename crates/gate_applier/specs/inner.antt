pub mod Books
pub mod Applier
pub mod Downtimes

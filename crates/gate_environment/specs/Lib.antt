pub mod Clock
pub mod Streams
pub mod Points
pub mod Parting

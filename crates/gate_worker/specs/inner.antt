pub mod Serving
pub mod Progress
pub mod Parting
pub mod Starting

pub mod Steps
pub mod Unknown

pub mod Making
pub mod Publishing
pub mod Serving

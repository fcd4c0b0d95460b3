pub mod Judged
pub mod Put

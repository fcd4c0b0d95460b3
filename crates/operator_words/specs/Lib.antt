pub mod CommandLine
pub mod Found
pub mod Words

pub mod Rows
pub mod StatusPage

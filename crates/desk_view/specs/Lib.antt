pub mod Parts
pub mod Forms
pub mod Page
pub mod Marks

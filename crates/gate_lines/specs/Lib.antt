pub mod Lines
pub mod LogPage

pub mod Folder
pub mod Notices
pub mod RunLog

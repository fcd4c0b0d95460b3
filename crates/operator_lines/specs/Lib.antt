pub mod Sending
pub mod Replies
pub mod Asking
pub mod inner

pub mod Labels
pub mod Outbox
pub mod Showing
pub mod inner

pub mod Applying
pub mod Boards
pub mod Showing
pub mod inner

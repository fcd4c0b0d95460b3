pub mod Headings
pub mod Methods
pub mod Pages
pub mod Changing
pub mod Naming
pub mod Sending
pub mod inner

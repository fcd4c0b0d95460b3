pub mod Program
pub mod Serve
pub mod inner

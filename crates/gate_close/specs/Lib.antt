pub mod DrainedClose
pub mod inner

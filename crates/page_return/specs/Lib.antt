pub mod Again
pub mod Missing

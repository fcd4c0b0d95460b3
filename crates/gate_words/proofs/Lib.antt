mod Examples
pub mod WordSteps

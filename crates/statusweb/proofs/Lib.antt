pub mod WordSteps
pub mod ServiceSteps

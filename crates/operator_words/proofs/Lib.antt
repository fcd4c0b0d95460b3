pub mod FoundSteps
pub mod WordSteps

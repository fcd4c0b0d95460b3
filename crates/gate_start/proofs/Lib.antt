pub mod KeptSteps
pub mod ConfiguringSteps
pub mod Steps

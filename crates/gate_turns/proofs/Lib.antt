pub mod CountSteps
pub mod FirstSteps
pub mod LeastSteps

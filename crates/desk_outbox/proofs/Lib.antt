pub mod ShowSteps

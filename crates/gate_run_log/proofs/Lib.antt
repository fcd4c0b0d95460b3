pub mod TellSteps

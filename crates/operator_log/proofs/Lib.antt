pub mod PageSteps

pub mod PutSteps

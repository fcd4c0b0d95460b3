pub mod AmongSteps

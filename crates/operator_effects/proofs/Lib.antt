pub mod CommandSteps

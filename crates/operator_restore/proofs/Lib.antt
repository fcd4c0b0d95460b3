pub mod PrintedSteps
mod NameSteps
mod ProspectSteps
mod FaultSteps

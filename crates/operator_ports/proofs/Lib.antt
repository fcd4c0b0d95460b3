pub mod DoneSteps
pub mod WatchingSteps

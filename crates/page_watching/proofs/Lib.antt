pub mod PlaceSteps
pub mod WatchSteps

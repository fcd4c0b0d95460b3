mod RestoredSteps
pub mod StopSteps

pub mod StatusSteps
pub mod StandingSteps
pub mod StaleSteps
pub mod OpeningSteps

pub mod CountSteps
pub mod KeepingSteps
pub mod SearchSteps
pub mod StandingSteps

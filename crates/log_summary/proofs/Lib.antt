pub mod CountSteps
pub mod GroupSteps
pub mod HostSteps
pub mod LastSteps

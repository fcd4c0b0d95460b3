pub mod BodySteps
pub mod ChangingSteps
pub mod SendingSteps
pub mod RowSteps

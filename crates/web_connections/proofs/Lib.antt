pub mod FieldSteps
pub mod RefusalSteps

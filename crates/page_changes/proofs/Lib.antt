pub mod NameSteps
pub mod FindSteps
pub mod OutcomeLaw
pub mod OwnLaw

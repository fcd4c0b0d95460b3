pub mod TokenSteps
pub mod TestSteps

pub mod FollowSteps
pub mod ChosenSteps
pub mod ShownSteps

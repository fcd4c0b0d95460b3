pub mod Lists
pub mod EscapeSteps
mod Rows
mod MeaningExamples
mod ServiceExamples
pub mod ObjectSteps
pub mod CommentSteps
pub mod DowntimeSteps
pub mod DowntimeGone
pub mod MeaningSteps
pub mod OrderSteps
pub mod SearchSteps

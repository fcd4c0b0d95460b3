pub mod SendingSteps
pub mod DigitSteps
pub mod ReplySteps
pub mod AskingSteps

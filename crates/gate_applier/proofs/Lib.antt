pub mod ListSteps
pub mod GoneSteps
pub mod BookSteps
pub mod JudgeSteps
pub mod OutsideSteps
pub mod CountSteps
pub mod LiveSteps
pub mod RoomSteps

pub mod CheckSteps
pub mod KeySteps
pub mod TableSteps
pub mod ObjectSteps
pub mod DocumentSteps

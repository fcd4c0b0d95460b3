pub mod CommandSteps
pub mod FaultSteps
pub mod KnownSteps
pub mod MarkSteps
pub mod NoteSteps
pub mod ResponseSteps
pub mod ServiceSteps

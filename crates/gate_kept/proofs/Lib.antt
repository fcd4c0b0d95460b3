pub mod CutSteps
pub mod GiveSteps
pub mod PartSteps
pub mod SplitSteps
pub mod ByteSteps
pub mod PieceSteps
pub mod WriteSteps

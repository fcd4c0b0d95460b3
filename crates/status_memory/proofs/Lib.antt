pub mod MemorySteps
pub mod HistorySteps

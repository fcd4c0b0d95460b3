pub mod FillingSteps
mod StatusExamples

pub mod PlainLaws
pub mod LabelLaws
pub mod WritingSteps
pub mod ReadingLaws

pub mod Examples
pub mod FinishExamples
pub mod Written

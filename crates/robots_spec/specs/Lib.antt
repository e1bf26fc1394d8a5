pub mod Lines
pub mod Groups
pub mod Patterns
pub mod Verdict

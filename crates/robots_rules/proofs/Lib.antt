pub mod Scans
pub mod NormalSteps
pub mod Lying
pub mod Best
pub mod Grouping
pub mod Collecting
pub mod LineSteps

pub mod Crawled
pub mod Lines
pub mod Recorded
pub mod Visits
pub mod Worked

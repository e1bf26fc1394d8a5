pub mod Reading
pub mod Matching
pub mod Ranks

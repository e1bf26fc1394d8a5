pub mod Counts
pub mod Heads
pub mod Joined
pub mod MediaText
pub mod Values

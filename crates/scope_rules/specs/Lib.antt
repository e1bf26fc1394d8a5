pub mod Asked
pub mod Patterns
pub mod Prefixes
pub mod Runs

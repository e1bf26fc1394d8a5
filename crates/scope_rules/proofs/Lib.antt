pub mod Crosses
pub mod Deciding
pub mod FirstBad
pub mod Patterns
pub mod Runs
pub mod Scans

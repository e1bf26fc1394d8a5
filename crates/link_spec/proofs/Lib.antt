pub mod Cuts
mod Worked
pub mod Scans

pub mod Trims
pub mod Faults
pub mod LineKinds
pub mod BadLines
pub mod Steps
pub mod Walks

pub mod Caused
pub mod Openings
pub mod Runs
pub mod Said

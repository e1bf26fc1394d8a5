pub mod Source
pub mod Joining
pub mod Links
pub mod Worked

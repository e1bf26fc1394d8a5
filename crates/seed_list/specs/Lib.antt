pub mod Lines
pub mod Seeds
pub mod Bad
pub mod Reading
pub mod Listing
pub mod Worked

pub mod Ends
pub mod Faults
pub mod Items
pub mod Joining
pub mod Lines
pub mod Reading

pub mod Rooms
pub mod Texts
pub mod Fields
pub mod Lines

pub mod Groups
pub mod Visible

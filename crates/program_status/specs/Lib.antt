pub mod Gains
pub mod Status

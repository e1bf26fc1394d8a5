pub mod Exchanged
pub mod Last

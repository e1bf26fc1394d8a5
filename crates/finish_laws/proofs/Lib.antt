pub mod Bridge
pub mod Going
pub mod Seen
pub mod Supported

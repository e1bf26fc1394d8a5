pub mod Blocks
pub mod Frame
pub mod Logs
pub mod Reading
pub mod Rest

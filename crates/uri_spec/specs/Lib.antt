pub mod Key
pub mod Prefix
pub mod SessionId
pub mod Surt
pub mod Worked

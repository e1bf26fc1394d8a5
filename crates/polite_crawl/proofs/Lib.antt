pub mod Between
pub mod Events
pub mod Going
pub mod Saturation
pub mod Settling
pub mod Turning
pub mod Working

pub mod Bodies
pub mod Digests
pub mod Fetches
pub mod MediaTypes
pub mod Turns

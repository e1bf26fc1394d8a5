pub mod Calls
pub mod Fails
pub mod Files
pub mod Laws
pub mod LinkFails
pub mod Site

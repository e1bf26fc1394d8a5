pub mod Fault
pub mod Laws
pub mod Members
pub mod Named
pub mod Prefix

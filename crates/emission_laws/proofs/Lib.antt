pub mod Answering
pub mod Choosing
pub mod Members
pub mod Order
pub mod Waiting

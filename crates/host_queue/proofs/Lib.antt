pub mod Members
pub mod Order
pub mod Ranks
pub mod Sound

pub mod Computed
pub mod Fitting
pub mod Heads
pub mod Held
pub mod Spots

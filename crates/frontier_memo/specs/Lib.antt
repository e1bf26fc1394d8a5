pub mod Fits
pub mod Keeping
pub mod Laws
pub mod Memory
pub mod Outs
pub mod Sums
pub mod Taking
pub mod Undoing

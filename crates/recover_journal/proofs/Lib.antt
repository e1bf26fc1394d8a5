pub mod BlockLists
pub mod OneFile
pub mod Resting
pub mod Walking

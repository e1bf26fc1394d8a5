pub mod Damage
pub mod Faults
pub mod JobFile
pub mod Opening
pub mod Standing

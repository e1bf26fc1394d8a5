pub mod Begun
pub mod Firsts
pub mod JobFiles
pub mod Lengths
pub mod Runs
pub mod Unfit
pub mod WaitingItems

pub mod Turn
pub mod Plays
pub mod Duties
pub mod Passes
pub mod Lending

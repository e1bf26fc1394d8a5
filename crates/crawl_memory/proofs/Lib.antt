pub mod FileLists
pub mod Pieces
pub mod Places
pub mod Recording
pub mod Written

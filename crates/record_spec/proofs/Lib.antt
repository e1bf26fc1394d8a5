pub mod DateLaws
pub mod Worked

pub mod Base32
pub mod Date
pub mod Record
pub mod Worked

pub mod Ends
pub mod Items
pub mod Valid
pub mod Worked

pub mod Adding
pub mod Choosing
pub mod Fewer
pub mod Fresh
pub mod Leading

pub mod Missing
pub mod Texts
pub mod Names
pub mod Numbers
pub mod Seeds
pub mod Empty
pub mod Ranges

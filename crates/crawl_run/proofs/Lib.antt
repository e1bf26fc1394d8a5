pub mod Ends
pub mod Going
pub mod Visited
pub mod Words

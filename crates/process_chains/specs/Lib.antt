pub mod Done
pub mod Drafts
pub mod Endings
pub mod Ends

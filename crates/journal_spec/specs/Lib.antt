pub mod Fields
pub mod Journal

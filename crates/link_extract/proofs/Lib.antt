pub mod Blanks
pub mod Growing
pub mod Letters
pub mod Responses

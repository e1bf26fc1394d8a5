pub mod Counting
pub mod Legal
pub mod Lists
pub mod Placing
pub mod Sessions

pub mod Causes
pub mod Exchanges
pub mod Images
pub mod Runs

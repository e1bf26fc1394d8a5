pub mod Crawl
pub mod Run

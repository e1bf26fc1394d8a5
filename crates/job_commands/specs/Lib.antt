pub mod Causes
pub mod Enqueue
pub mod Init
pub mod Opened
pub mod Queue
pub mod Statuses
pub mod Tends
pub mod Words

pub mod Fields
pub mod Outcome
pub mod Peer
pub mod Request
pub mod Response
pub mod Worked

pub mod Drafting
pub mod Faults
pub mod Finishing
pub mod Redirects
pub mod Suiting
pub mod Uncut
pub mod Valid

pub mod Adding
pub mod Hops
pub mod Making
pub mod Robots
pub mod Validity
pub mod Worked

pub mod CoreFacts
pub mod Laws
pub mod RobotsAnswer
pub mod ValidEvent
pub mod Validity
pub mod Worked

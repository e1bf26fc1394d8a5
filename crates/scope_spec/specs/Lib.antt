pub mod Answer
pub mod Decision
pub mod Pattern
pub mod UriParts
pub mod Worked
pub mod WorkedPatterns

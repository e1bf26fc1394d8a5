pub mod Candidates
pub mod KeptAdds
pub mod Shown

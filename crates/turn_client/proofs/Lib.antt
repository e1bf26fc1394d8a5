pub mod Places
pub mod Totals
pub mod Tallies
pub mod Dealing

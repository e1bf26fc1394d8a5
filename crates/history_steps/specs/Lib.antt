pub mod ScansStep

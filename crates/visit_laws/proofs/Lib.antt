pub mod Behind
pub mod Carrying
pub mod Onward
pub mod Placing
pub mod Standing
pub mod Together

pub mod Passes
pub mod Floors

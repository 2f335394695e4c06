pub mod Told
pub mod Floors

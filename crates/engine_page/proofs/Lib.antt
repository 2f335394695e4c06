pub mod WordLemmas
pub mod Frames
pub mod Splitting
pub mod Inputs
pub mod OneReading
pub mod SomeReading
pub mod OneVerdict
pub mod Feeding

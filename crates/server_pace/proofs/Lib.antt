pub mod OpenAttempts
pub mod NextTold
pub mod Bounds

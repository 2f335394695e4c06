pub mod Copies
pub mod Reading
pub mod LookUps
pub mod Examples

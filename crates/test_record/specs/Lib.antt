pub mod Meaning
pub mod Gates

pub mod Promises
pub mod Histories
pub mod Gates
pub mod Plain

pub mod Tickets
pub mod Changes
pub mod Actions
pub mod Values
pub mod Names
pub mod LookUps
pub mod Examples

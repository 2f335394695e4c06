mod MoreValues
pub mod Positions
pub mod Receipts
pub mod Answering
mod Keeping
mod LookUps
mod Examples

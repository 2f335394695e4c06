pub mod Page
pub mod Receipts
pub mod ReleaseSite
pub mod Keeping
pub mod Stepping
pub mod Standing
pub mod Laws

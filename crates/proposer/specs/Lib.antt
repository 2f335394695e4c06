pub mod Attempts
pub mod Best
pub mod Standing
pub mod Laws

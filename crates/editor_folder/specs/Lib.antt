pub mod Moved
pub mod Places

pub mod Judging
pub mod Steps
pub mod Laws

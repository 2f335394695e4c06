pub mod Answers
pub mod Authorities
pub mod Bars
pub mod Faults
pub mod Input
pub mod Requests

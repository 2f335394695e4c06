pub mod Addresses
pub mod Faults
pub mod Naming
pub mod Telling

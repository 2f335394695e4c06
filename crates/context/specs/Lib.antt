pub mod Whole
pub mod View
pub mod Faults
pub mod LookUp
pub mod Stack

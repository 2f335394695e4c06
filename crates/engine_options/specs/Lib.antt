pub mod Arguments
pub mod Misuses
pub mod Options
pub mod SimOptions
pub mod ServeOptions
pub mod ClusterOptions
pub mod Versions
pub mod Inspections

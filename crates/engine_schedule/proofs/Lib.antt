pub mod ScheduleLemmas
pub mod Simulating
pub mod Simulated
pub mod OneLine
pub mod Traced

pub mod Timing

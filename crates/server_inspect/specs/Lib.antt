pub mod Counting
pub mod Views
pub mod Inspecting

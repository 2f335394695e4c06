pub mod Schedule
pub mod Tracing
pub mod ScheduleView
pub mod Simulation
pub mod SimulationEnds
pub mod Stepping
pub mod Laws

pub mod ServerFaults
pub mod Why

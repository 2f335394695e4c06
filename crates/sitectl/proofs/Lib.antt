pub mod Calls
pub mod PassCalls

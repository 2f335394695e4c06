pub mod Script
pub mod ScriptView
pub mod Client
pub mod ScriptEnds
pub mod ScriptSteps
pub mod Laws

pub mod ScriptLemmas
pub mod ScriptRuns

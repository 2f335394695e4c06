pub mod StepLemmas
pub mod Examples

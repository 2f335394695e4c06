pub mod Counting
pub mod MaskLemmas
pub mod TallyLemmas
pub mod Adding
pub mod Examples

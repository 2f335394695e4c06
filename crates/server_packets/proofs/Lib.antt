pub mod FrameLemmas
pub mod MakingLemmas

pub mod CutLemmas
pub mod LineLemmas
pub mod Texts
pub mod Lines
pub mod Founds
pub mod Fed

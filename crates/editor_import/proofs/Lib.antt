pub mod VerbatimLemmas
pub mod RouteLemmas
pub mod CutLemmas
pub mod LeadingLemmas
pub mod SortLemmas

pub mod Ids
pub mod Lists
pub mod Majorities
pub mod NodeSets
pub mod Spans
pub mod Spelling
pub mod Laws

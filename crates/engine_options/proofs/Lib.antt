pub mod OptionValues
pub mod OptionLemmas
pub mod SimpleCommands
pub mod Chains
pub mod Parsing
pub mod ServeLemmas
pub mod TwoWords
pub mod ThreeWords

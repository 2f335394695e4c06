pub mod BestLemmas
pub mod Answering
pub mod Taking
pub mod Examples
pub mod CountingOpen
pub mod Trying

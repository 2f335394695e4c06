pub mod LogValues
pub mod Log

pub mod Lines
pub mod Noting
pub mod Listening
pub mod Muteness
pub mod Publishing
pub mod Hours
pub mod Due

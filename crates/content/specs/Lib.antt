pub mod View
pub mod Standing
pub mod Answered

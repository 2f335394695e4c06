pub mod Comparing
pub mod Endings
pub mod Numbers
pub mod Taking
pub mod Unanswered

pub mod Cuts
pub mod Founds
pub mod Bodies
pub mod Submissions
pub mod Feeds
pub mod Filling
pub mod Faults
pub mod Answers

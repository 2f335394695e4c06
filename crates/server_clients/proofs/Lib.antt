pub mod Serving
pub mod Answering
pub mod Moving
pub mod Seating
pub mod Dropping

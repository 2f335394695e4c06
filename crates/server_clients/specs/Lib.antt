pub mod Served
pub mod Staying
pub mod Holding
pub mod Answering
pub mod Moving
pub mod Seating
pub mod Lingering

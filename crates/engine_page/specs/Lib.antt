pub mod Framed
pub mod Words
pub mod View
pub mod Reading
pub mod Verdict
pub mod Standing
pub mod Laws
pub mod Ends

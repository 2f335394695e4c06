pub mod Verbatim
pub mod Routes
pub mod Refreshes
pub mod Leading
pub mod Pages
pub mod Imports

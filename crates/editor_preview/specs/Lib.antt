pub mod Previews
pub mod Scripts

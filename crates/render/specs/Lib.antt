pub mod Printed
pub mod Meaning
pub mod Rendering
pub mod Margin

pub mod Shape
pub mod Legs

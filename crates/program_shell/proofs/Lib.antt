mod Bounds
mod Cards
mod Lines
mod Longs
pub mod Programs

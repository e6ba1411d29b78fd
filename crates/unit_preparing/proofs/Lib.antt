pub mod Filling
pub mod Prepares

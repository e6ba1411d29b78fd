pub mod Backs
pub mod Turns
pub mod Wholes

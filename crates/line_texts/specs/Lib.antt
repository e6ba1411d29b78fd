pub mod Areas
pub mod Outs
pub mod Decimals
pub mod Puts
pub mod Ascii

pub mod Shortness
pub mod ThreeParts

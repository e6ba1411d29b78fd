pub mod Counts
pub mod Sums
pub mod Places
pub mod Groups

pub mod AllLines
pub mod Counts
pub mod Holds
pub mod Input

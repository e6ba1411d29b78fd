pub mod ReadWays
pub mod WriteWays

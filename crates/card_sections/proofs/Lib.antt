pub mod Firsts
pub mod Seen
pub mod Roads
pub mod Verdicts

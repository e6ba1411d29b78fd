pub mod Answers
pub mod Wholes

pub mod Words
pub mod Answers
pub mod Worked
pub mod Scripts

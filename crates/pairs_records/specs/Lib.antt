pub mod Words
pub mod Tests
pub mod Holds

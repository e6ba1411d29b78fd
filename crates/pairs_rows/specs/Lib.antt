pub mod Links
pub mod Rows
pub mod Entries
pub mod Steps

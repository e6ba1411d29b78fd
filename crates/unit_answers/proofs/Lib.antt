pub mod Changes
pub mod Worked

pub mod Questions
pub mod OneLeg
pub mod OnWay
pub mod Turns
pub mod Whole

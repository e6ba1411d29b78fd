pub mod Limits
pub mod Opening
pub mod Answering
pub mod Session

pub mod Groups
pub mod Seeing
pub mod Opens
pub mod Heads
pub mod Roads
pub mod Steps

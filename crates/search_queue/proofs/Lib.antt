pub mod Orders
pub mod Words
pub mod Places
pub mod Climb
pub mod Root

pub mod Places
pub mod Facts
pub mod Climbs
pub mod Prepares

-- What is given to the search, whom it asks and what it relaxes: definitions first, then the laws that the proofs of the search cite.
pub mod Groups
pub mod Views
pub mod State
pub mod Asking
pub mod Rooms
pub mod Relaxing
pub mod Ways
pub mod Facts
pub mod Fills
pub mod Firsts

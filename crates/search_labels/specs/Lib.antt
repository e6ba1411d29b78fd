-- What a search keeps of each node: definitions first, then the laws that proofs over labels cite.
pub mod Labelling
pub mod Labelled
pub mod Ways
pub mod Relax
pub mod Log
pub mod Begun
pub mod Ended

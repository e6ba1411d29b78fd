mod Areas
mod Cards
mod Talks

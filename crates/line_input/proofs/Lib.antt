mod Steps
mod Turns

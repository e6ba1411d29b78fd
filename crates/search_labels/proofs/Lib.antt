pub mod Improves

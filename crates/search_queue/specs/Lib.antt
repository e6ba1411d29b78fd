pub mod Order
pub mod Tree
pub mod Sums
pub mod Laws

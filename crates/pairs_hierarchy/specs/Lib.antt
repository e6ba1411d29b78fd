pub mod Estimates
pub mod Walks
pub mod Lending

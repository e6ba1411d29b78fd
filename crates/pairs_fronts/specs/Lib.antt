pub mod Fronts
pub mod Holding
pub mod Lending

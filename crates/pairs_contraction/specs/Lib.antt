pub mod Contraction
pub mod Lending

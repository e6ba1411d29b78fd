pub mod Lending
pub mod OnMap

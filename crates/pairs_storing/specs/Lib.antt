pub mod Storing
pub mod Lending

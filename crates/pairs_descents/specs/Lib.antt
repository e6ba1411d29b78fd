pub mod Downs
pub mod Lending

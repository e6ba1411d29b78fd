pub mod Width
pub mod Bytes
pub mod Bodies
pub mod Refusals
pub mod Lending
pub mod Locals

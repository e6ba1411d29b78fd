pub mod Lines
pub mod Texts
pub mod Decimals
pub mod Grammar
pub mod Examples

pub mod Places
pub mod OneRow
pub mod AllRows

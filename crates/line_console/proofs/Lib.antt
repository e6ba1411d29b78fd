-- Laws of the definitions, which several proofs cite, and the worked lines.
mod Words
pub mod Grammar
pub mod Examples

-- Laws of the definitions, which several proofs cite.
mod Numbers

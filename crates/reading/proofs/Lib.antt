-- A law that the proofs of several functions cite, and the theorem whose statement is in specs/: Old.
pub mod Whole
pub mod Old

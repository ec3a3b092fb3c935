-- Laws that the proofs of several functions cite.
pub mod Parts
pub mod Turning
pub mod Replaying
pub mod Shrinking
pub mod Passing
pub mod Wholes
pub mod Reducing
pub mod OnlyThePart

-- Laws that the proofs cite.
pub mod Checks
pub mod EndsPass
pub mod EndsSeen
pub mod Places
pub mod Putting
pub mod Room

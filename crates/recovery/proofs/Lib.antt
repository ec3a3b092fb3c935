-- Laws of initialize and recover, for the proofs here and those of engine.
pub mod Recovering

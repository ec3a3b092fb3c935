-- Laws of the plan's bytes: those that this crate's proofs cite, and what the reader's answer says of them.
pub mod Plans
pub mod PlanReads

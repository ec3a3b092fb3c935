-- What the reader of a plan promises, in terms of model's specs/Program.antt.
pub mod PlanRead

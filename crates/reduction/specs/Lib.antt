-- What `reduce` promises, in terms of model's specs/Reduction.antt (Reduces), and what the functions behind it promise.
pub mod Parts
pub mod Replays
pub mod Passes
pub mod Reduces
pub mod OnlyThePart

-- Laws that the proofs of several functions cite: how a state of the code is seen after a write, what a sound state
-- says of the code's numbers, and how the promises are met.
pub mod Stores
pub mod Views
pub mod Bounds
pub mod Promises
pub mod Aborting
pub mod Clearing
pub mod Turning
pub mod Subjects
pub mod WriteBack
pub mod Receptions
pub mod ReceiveMeets
pub mod Runs

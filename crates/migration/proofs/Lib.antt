-- Laws that the proofs of several functions cite, and the theorems whose statements are in specs/: LineLast, Faithful.
pub mod Admitting
pub mod Writing
pub mod Copying
pub mod Left
pub mod Landing
pub mod Recovers
pub mod LineLast
pub mod Faithful

-- Laws that the proofs of several functions cite, and last the theorems.
pub mod Asking
pub mod Planning
pub mod Lines
pub mod Listing
pub mod Printed
pub mod Answering
pub mod ToldLines
pub mod HeadRuns
pub mod Replaying
pub mod Carrying
pub mod Files
pub mod SameLine
pub mod AsHead
pub mod TakenBytes

-- Laws that the proofs of several functions cite.
pub mod Requests
pub mod Serving
pub mod Sessions
pub mod Opening

-- Laws that the proofs of several functions cite.
pub mod Appending
pub mod Printing
pub mod Texts
pub mod Endings
pub mod HexTexts
pub mod Filling
pub mod Changes
pub mod Examples

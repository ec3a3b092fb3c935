-- Laws that the proofs of several functions cite.
pub mod KindLaws
pub mod ParseLaws
pub mod ReadsBack
pub mod Answered

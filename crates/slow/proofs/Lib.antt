-- Laws that the proofs of several functions cite.
pub mod FirstEntry
pub mod Pasts
pub mod Copying
pub mod Below
pub mod Changes
pub mod Entering
pub mod Feeding
pub mod Filling
pub mod OnChannel
pub mod Standings
pub mod AsRun
pub mod Listing

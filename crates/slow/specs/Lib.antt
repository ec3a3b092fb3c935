-- Replays is what the slow engine promises, and the files after it are what its functions promise, in terms of the
-- second account (crate `account`).
pub mod Replays
pub mod SoFar
pub mod Kept
pub mod Within
pub mod Seen
pub mod Parts

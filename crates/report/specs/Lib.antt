-- What `head`, `drill` and `console` print, and what it means to append it to a buffer.
pub mod Text
pub mod Hex
pub mod Changed
pub mod TextBytes
pub mod Ending
pub mod Appends
pub mod Examples

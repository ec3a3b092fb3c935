-- What `console` answers and prints, what `converter` prints, what the functions behind them promise, and last what the
-- theorems state.
pub mod AsHead
pub mod Carrying
pub mod Console
pub mod ConsoleAnswer
pub mod ConsoleText
pub mod File
pub mod Lists
pub mod Planned
pub mod Printing
pub mod Replaying
pub mod SameLine
pub mod TakenBytes

-- What the programs `head` and `drill` print, whole, and what the functions behind them promise.
pub mod Drill
pub mod Output
pub mod RequestRead
pub mod Serving

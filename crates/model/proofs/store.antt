-- What writes do to the store: to one cell, and to what the two slots hold; and what a store has that can be read.
pub mod Writes
pub mod Entries
pub mod RunningIndex
pub mod LogReplay
pub mod LogUndo
pub mod Sizes
pub mod Addresses
pub mod Readable
pub mod ZeroWrites
pub mod Slots

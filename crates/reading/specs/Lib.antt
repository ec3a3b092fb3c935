-- The old form of the store, which form the code's stands for, and a store read by places.
pub mod Old
pub mod Source

-- What recover promises, and initialize with it, in terms of the model's definitions.
pub mod Starts

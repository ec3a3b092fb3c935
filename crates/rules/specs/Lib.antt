-- What the functions of rules promise in terms of the model's definitions.
pub mod Below
pub mod Ends
pub mod Late
pub mod Placing
pub mod Reacting

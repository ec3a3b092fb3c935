-- Laws of the definitions, from the notation up: what every other proof, of this crate and of those above it, may cite.
pub mod Tests
pub mod Functions
pub mod Lists
pub mod Bits
pub mod ChannelLaws
pub mod Passing
pub mod Calls
pub mod CallLists
pub mod TopologyLaws
pub mod WordLaws
pub mod ReceiveLaws
pub mod SoundLaws
pub mod HistoryLaws
pub mod RecordLaws
pub mod Effects
pub mod Receiving
pub mod ChannelEffects

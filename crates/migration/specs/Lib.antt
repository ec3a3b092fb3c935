-- Document 02, M-102: a store carried from one form to another, as definitions, theorems about them as statements, and
-- what the code promises.
pub mod Carry
pub mod Carries
pub mod LineLast
pub mod Faithful
pub mod Source

pub mod Aggregates
pub mod Functions
pub mod Operators
pub mod Outcome
pub mod Texts

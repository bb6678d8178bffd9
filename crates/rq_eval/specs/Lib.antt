pub mod Aggregates
pub mod ErrorText
pub mod Names
pub mod Outcome
pub mod Resolved
pub mod Value

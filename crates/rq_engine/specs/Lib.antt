pub mod Coding
pub mod Fold
pub mod Proper

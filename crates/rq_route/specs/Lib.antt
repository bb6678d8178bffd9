pub mod Parameters
pub mod Paths
pub mod Refusal
pub mod Routing
pub mod Target

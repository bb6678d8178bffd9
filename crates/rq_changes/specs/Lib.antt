pub mod Making
pub mod Staged
pub mod Stepping
pub mod Walking

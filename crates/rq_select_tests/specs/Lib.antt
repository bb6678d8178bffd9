pub mod Keyed
pub mod Meaning
pub mod Naming

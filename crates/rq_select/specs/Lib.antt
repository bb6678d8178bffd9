pub mod Finding
pub mod Sorting
pub mod Select
pub mod Planned
pub mod Keys
pub mod Stopping
pub mod Parts

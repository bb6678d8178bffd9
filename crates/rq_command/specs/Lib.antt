pub mod Commands
pub mod Reading
pub mod Stored
pub mod Whole

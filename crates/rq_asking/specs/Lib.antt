pub mod Asked
pub mod Requested

pub mod Prepared
pub mod Refused
pub mod Shown

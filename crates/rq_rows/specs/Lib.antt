pub mod Rows
pub mod Holding
pub mod Slots
pub mod Covering
pub mod Staged

pub mod Plain
pub mod Numbers
pub mod Prefixes
pub mod Cut
pub mod Spelled
pub mod OneNext

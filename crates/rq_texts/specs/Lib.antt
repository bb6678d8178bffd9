pub mod Hex
pub mod Like
pub mod TimeText

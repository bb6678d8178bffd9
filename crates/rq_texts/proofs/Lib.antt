pub mod Liking
pub mod Digits
pub mod TimeTexts

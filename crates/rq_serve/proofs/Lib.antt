pub mod Closures
pub mod Phrases

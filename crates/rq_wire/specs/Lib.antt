pub mod Config
pub mod Exact
pub mod Reading
pub mod Spelling

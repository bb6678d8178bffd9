pub mod Exact
pub mod Reading
pub mod Sent
pub mod Spelling

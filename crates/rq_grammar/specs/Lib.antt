pub mod Words
pub mod Grammar
pub mod Statements
pub mod Depth
pub mod Spelling
pub mod Print
pub mod Proper

pub mod Events
pub mod Files
pub mod Node
pub mod Opened
pub mod Rules
pub mod Sound
pub mod Recovery

pub mod AnyCommand
pub mod Exact
pub mod Loop
pub mod Statements
pub mod Told

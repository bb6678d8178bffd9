pub mod Texts
pub mod Loop
pub mod Plain
pub mod Agreeing
pub mod Faults
pub mod Local
pub mod Exact
pub mod Prefixes

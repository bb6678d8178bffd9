pub mod Exact
pub mod Local
pub mod Agreeing

pub mod Agreeing
pub mod Rising
pub mod Local
pub mod Exact

pub mod Asks
pub mod Fast
pub mod Lookups
pub mod Durable

pub mod Bytes
pub mod Fixed
pub mod Items
pub mod Settled
pub mod Sights
pub mod Statements
pub mod Unsettled

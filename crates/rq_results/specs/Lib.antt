pub mod Table
pub mod Results
pub mod Checks
pub mod Viewed

pub mod Changes
pub mod Checks
pub mod Database
pub mod Lists
pub mod Rows
pub mod Running
pub mod Statements
pub mod Valid

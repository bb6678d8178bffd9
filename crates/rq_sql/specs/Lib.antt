pub mod Read
pub mod Running

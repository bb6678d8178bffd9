pub mod Stack
pub mod Places
pub mod Machine
pub mod Load
pub mod Popping
pub mod Weight
pub mod Examples

pub mod OneStep
pub mod Meaning

pub mod Small
pub mod Marks
pub mod OneAnswer

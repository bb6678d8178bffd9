pub mod OneAnswer
pub mod Pieces
pub mod Fused

pub mod Parts
pub mod Views
pub mod Tally
pub mod Incoming
pub mod OfWire

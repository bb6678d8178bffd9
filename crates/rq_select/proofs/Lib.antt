pub mod Viewing
pub mod Plans
pub mod Steps
pub mod OneAnswer
pub mod Answering
pub mod Picking
pub mod Tests
pub mod FirstRows

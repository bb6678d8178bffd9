pub mod History
pub mod Quorum
pub mod Configurations
pub mod Moves
pub mod Votes
pub mod Commits
pub mod Laws
pub mod Examples

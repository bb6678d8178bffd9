mod Choices
mod Quorum

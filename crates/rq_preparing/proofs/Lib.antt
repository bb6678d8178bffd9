mod Once
mod Readying

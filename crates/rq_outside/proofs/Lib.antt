mod Overwrites
mod Picks
mod Replays

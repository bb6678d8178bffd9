mod Names
mod Places
mod Below
mod Placed
mod Outcomes
mod Created

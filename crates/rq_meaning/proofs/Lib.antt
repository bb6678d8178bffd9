mod Failing
mod Entering
mod Keeping
mod Databases
mod Selected

mod Keeping
mod First

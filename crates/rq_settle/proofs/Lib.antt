mod Characters
mod Plain
mod Sources

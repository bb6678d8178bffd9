pub mod Lex
pub mod Facts
pub mod Spelled

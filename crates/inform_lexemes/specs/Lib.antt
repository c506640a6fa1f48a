pub mod Symbols
pub mod Keywords
pub mod Lexemes
pub mod Laws

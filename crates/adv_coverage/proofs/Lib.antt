mod Pieces
pub mod Known
pub mod LineByLine
mod Opening
mod Alike

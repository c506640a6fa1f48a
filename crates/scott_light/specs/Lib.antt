pub mod PageText
pub mod ItemTexts
pub mod Pieces

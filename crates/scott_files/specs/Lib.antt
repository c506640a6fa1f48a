pub mod Pieces
pub mod Loading

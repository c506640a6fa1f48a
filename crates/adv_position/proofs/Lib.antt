pub mod Pieces
pub mod Values
pub mod EachLine
pub mod Whole
pub mod Stepping
pub mod Written

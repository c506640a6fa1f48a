-- The laws of runs that are made in pieces.
pub mod Standing
pub mod Pieces
pub mod Laws

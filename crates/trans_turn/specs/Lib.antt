pub mod Routines
pub mod RoundSpecs

-- Counts, and their laws.
pub mod Counts
pub mod Laws

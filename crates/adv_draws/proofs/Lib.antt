pub mod Rolls
pub mod RunLemmas
pub mod Stepping
pub mod Counts
pub mod Soundness
pub mod ListingLaws

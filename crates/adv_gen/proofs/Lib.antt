pub mod Picking
pub mod Words
pub mod ActionParts
pub mod Plain
pub mod Limits
pub mod PickCounts

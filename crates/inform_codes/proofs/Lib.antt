pub mod Joins
pub mod Computed

pub mod WordIndex
pub mod BaseEntries

pub mod WordIndexes
pub mod BaseEntries

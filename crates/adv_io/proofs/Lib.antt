-- The lemmas of the base, which the crates above may cite.
pub mod TypedLines
pub mod Histories
pub mod Recordings
pub mod Files
pub mod Sayings
pub mod Buffering
pub mod Showing
pub mod Along
pub mod Spending
pub mod Loading

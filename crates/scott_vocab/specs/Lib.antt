pub mod Span
pub mod Heard
pub mod Found
pub mod Keys

pub mod Lookups
pub mod Binds
pub mod Exits
pub mod Answered

pub mod Counts
pub mod Lookups
pub mod Firsts
pub mod Meant
pub mod Faultless
pub mod Named

mod Joined
mod Parts
mod Numbers
pub mod Tables
pub mod Routines
pub mod Formed
pub mod Sound
pub mod Accepted
pub mod Called
pub mod Shaped
pub mod Distinct

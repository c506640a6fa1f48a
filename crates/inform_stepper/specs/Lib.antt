-- Pauses of a run that goes on step by step.
pub mod Pauses
pub mod Going
pub mod Shown
pub mod Repeats
pub mod Laws
pub mod Worked

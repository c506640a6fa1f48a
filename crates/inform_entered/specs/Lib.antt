-- Entered routines, and their law.
pub mod Entered
pub mod Laws
pub mod Worked

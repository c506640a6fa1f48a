-- Simplifying a program, and its laws.
pub mod Tests
pub mod Redexes
pub mod Simplifying
pub mod Laws
pub mod Worked

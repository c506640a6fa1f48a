pub mod Layout
pub mod References
pub mod Written
pub mod Lines
pub mod Plain
pub mod Laws
pub mod Worked

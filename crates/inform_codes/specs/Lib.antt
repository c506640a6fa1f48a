pub mod Parts
pub mod Growths
pub mod Codes
pub mod Grown
pub mod Routines
pub mod Laws
pub mod Worked

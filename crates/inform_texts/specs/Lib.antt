pub mod Texts
pub mod Faults
pub mod Reading
pub mod Laws
pub mod Worked

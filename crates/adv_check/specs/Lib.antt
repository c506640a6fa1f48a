pub mod Faults
pub mod Sites
pub mod Report
pub mod Laws
pub mod Worked

pub mod Immediate
pub mod Moves
pub mod Needs
pub mod Done
pub mod Works
pub mod Heights
pub mod Readiness
pub mod Laws

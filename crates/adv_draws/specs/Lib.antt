pub mod Run
pub mod Texts
pub mod Listed
pub mod Seeded
pub mod Supply
pub mod Source
pub mod Laws

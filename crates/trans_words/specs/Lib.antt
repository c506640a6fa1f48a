pub mod Directives
pub mod Laws
pub mod Worked

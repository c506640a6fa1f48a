pub mod Names
pub mod Helpers
pub mod Directives
pub mod Laws
pub mod Needed
pub mod Parts

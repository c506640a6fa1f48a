pub mod Names
pub mod Directives
pub mod Laws

pub mod Directives
pub mod Automatic
pub mod Search
pub mod Heads
pub mod Trying
pub mod GroupSpecs
pub mod Laws
pub mod Parts

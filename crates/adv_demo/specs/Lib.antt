pub mod Summaries
pub mod Texts
pub mod Demonstrations
pub mod Laws

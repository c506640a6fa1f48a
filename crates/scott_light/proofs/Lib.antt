pub mod Choosing
mod Darkness
pub mod Joining
mod Numbers

pub mod Running
pub mod Found
pub mod Opened
pub mod Beginning

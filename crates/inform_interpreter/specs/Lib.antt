pub mod Leading
pub mod Interpreters
pub mod Doing
pub mod Parts

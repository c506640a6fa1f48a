pub mod Narrow
pub mod Typing
pub mod Ends
pub mod Agreeing
pub mod Whole

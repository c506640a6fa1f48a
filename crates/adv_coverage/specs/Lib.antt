-- What was reached.
pub mod Report
pub mod Calls
pub mod Lines
pub mod Alike

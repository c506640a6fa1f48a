pub mod Joined
pub mod Taking
pub mod Faultless
pub mod Naming

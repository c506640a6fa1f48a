pub mod Numbers
pub mod Prefixes
pub mod Places
pub mod Fitting
pub mod Given
pub mod Pairs

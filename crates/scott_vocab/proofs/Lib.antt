pub mod Searching
pub mod Alike
pub mod Typed
pub mod Hearing

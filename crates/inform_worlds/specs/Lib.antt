pub mod Scopes
pub mod Slots
pub mod Worlds
pub mod Views

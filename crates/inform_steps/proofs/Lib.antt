pub mod Settling
pub mod ByMoves
pub mod Aside
pub mod Waiting
pub mod Joining
pub mod Entering
pub mod Calling

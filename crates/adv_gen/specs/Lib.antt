pub mod Picks
pub mod Vocabulary
pub mod Rooms
pub mod Items
pub mod Actions
pub mod TypedLines
pub mod Made
pub mod Laws

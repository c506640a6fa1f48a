mod Entering
pub mod Showing
pub mod Groups
pub mod Waiting
pub mod Tries
pub mod Turning
pub mod Items
pub mod Walks
pub mod Prompts
pub mod Playing
pub mod Tallying
pub mod SessionViews
pub mod Said

-- The rules, in the order in which a reader learns the game; then their laws, and games on which
-- they are worked out.
pub mod Progress
pub mod Words
pub mod Commands
pub mod Conditions
pub mod Opcodes
pub mod Actions
pub mod Looking
pub mod Light
pub mod Groups
pub mod Search
pub mod Transfer
pub mod Rounds
pub mod Play
pub mod Games
pub mod Laws
pub mod Worked

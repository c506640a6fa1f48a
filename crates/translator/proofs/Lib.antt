pub mod PlayedAlike
pub mod FirstWide
pub mod Translated

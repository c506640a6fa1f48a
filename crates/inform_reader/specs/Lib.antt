pub mod Reading
pub mod Laws
pub mod Views
pub mod FaultTexts

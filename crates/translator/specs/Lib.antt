pub mod Faithful
pub mod LineByLine
pub mod Answers
pub mod FaultTexts
pub mod Laws

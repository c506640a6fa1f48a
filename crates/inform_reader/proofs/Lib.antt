pub mod ProgramsRead
pub mod Formed
pub mod Answers

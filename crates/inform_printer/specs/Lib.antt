pub mod ValueLexemes
pub mod ConditionLexemes
pub mod StatementLexemes
pub mod ProgramLexemes
pub mod Printing
pub mod Laws
pub mod Worked

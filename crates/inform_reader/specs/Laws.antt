-- The laws of reading.
use Rattle.std.specs.Prelude.{ℕ, ◌≡◌, ◌↔◌, true, List, Ok, Err}
use Rattle.inform_tree.specs.declared.widths.Width.{Width}
use Rattle.inform_tree.specs.Formed.{is_well_formed}
use Rattle.inform_tree.specs.Programs.{DirectiveTree}
use Rattle.inform_reader.specs.declared.reading.TheConstants.{PROGRAM_LIMIT}
use Rattle.inform_reader.specs.Reading.{Fault, IsProgram, IsFaulty, program_in}

-- a text is read as a program exactly where it is one of it, and accepted
abbrev pub ProgramIn : Type 0
ProgramIn = (width : Width) (bytes : List ℕ) (p : List DirectiveTree)
    → (program_in width bytes ≡ Ok p) ↔ IsProgram width bytes p

-- and a fault is found exactly where it is the first thing that is wrong
abbrev pub FaultIn : Type 0
FaultIn = (width : Width) (bytes : List ℕ) (f : Fault)
    → (program_in width bytes ≡ Err f) ↔ IsFaulty width bytes f

-- what is read and accepted is well formed
abbrev pub ProgramsAreWellFormed : Type 0
ProgramsAreWellFormed = (width : Width) (bytes : List ℕ) (p : List DirectiveTree)
    → IsProgram width bytes p → is_well_formed p ≡ true

-- the most bytes of a source, which those who load one read from here
abbrev pub LimitListed : Type 0
LimitListed = PROGRAM_LIMIT ≡ 33554432

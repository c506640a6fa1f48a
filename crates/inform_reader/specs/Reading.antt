-- What a text is read as: its program, if it is accepted, or what is wrong with it first.
use Rattle.std.specs.Prelude.{ℕ, ◌≡◌, List, Option, Some, None, Result, Ok, Err}
use Rattle.inform_tree.specs.declared.widths.Width.{Width}
use Rattle.inform_tree.specs.Programs.{DirectiveTree}
use Rattle.inform_texts.specs.Texts.{ProgramText}
use Rattle.inform_texts.specs.Faults.{TextFault, FaultyText}
use Rattle.inform_texts.specs.Reading as text
use Rattle.inform_names.specs.Faults as names
use Rattle.inform_names.specs.Acceptance.{name_fault}

pub data Fault : Type 0 where
  NoProgram : TextFault → Fault  -- it is no text of a program
  NotAccepted : names.Fault → Fault  -- it is one of a program with this fault

-- ---- what is what

-- the text is one of this program, which is accepted where words have this width
pub record IsProgram (width : Width) (bytes : List ℕ) (p : List DirectiveTree) : Type 0 where
  pub text : ProgramText bytes p
  pub accepted : name_fault width p ≡ None

-- this is what is wrong with the text first
abbrev pub IsFaulty : Width → List ℕ → Fault → Type 0
IsFaulty width bytes (NoProgram f) = FaultyText bytes f
IsFaulty width bytes (NotAccepted f) =
    (p : List DirectiveTree) × ProgramText bytes p × (name_fault width p ≡ Some f)

-- ---- reading

abbrev pub program_or_fault : List DirectiveTree → Option names.Fault
    → Result (List DirectiveTree) Fault
program_or_fault p None = Ok p
program_or_fault p (Some f) = Err (NotAccepted f)

-- by the program of the text, or its first fault
abbrev pub accepted_of : Width → Result (List DirectiveTree) TextFault
    → Result (List DirectiveTree) Fault
accepted_of width (Ok p) = program_or_fault p (name_fault width p)
accepted_of width (Err f) = Err (NoProgram f)

unfoldable pub program_in : Width → List ℕ → Result (List DirectiveTree) Fault
program_in width bytes = accepted_of width (text.program_in bytes)

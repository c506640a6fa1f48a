-- The laws of texts.
use Rattle.std.specs.Prelude.{ℕ, ◌≡◌, ◌↔◌, ◌⊎◌, List, Ok, Err}
use Rattle.inform_tree.specs.Programs.{DirectiveTree}
use Rattle.inform_lexer.specs.Spans.{lexemes}
use Rattle.inform_grammar.specs.Faults.{FaultKind, fault}
use Rattle.inform_grammar.specs.Reading.{within_limit}
use Rattle.inform_grammar.specs.Laws.{FirstFault}
use Rattle.inform_texts.specs.Texts.{ProgramText}
use Rattle.inform_texts.specs.Faults.{TextFault, FaultyText, Refused}
use Rattle.inform_texts.specs.Reading.{program_in}

-- a text has one program at most
abbrev pub OneProgramAText : Type 0
OneProgramAText =
    (bytes : List ℕ) (p q : List DirectiveTree) → ProgramText bytes p → ProgramText bytes q → p ≡ q

-- a text has a program, or a first fault
abbrev pub ProgramOrFault : Type 0
ProgramOrFault =
    (bytes : List ℕ) → ((p : List DirectiveTree) × ProgramText bytes p) ⊎
    ((f : TextFault) × FaultyText bytes f)

-- and never both
abbrev pub NeverBoth : Type 0
NeverBoth =
    (bytes : List ℕ) (p : List DirectiveTree) (f : TextFault) → ProgramText bytes p
    → FaultyText bytes f → ⊥

-- a text has one first fault at most
abbrev pub OneFaultAText : Type 0
OneFaultAText = (bytes : List ℕ) (f g : TextFault) → FaultyText bytes f → FaultyText bytes g → f ≡ g

-- a fault of the grammar stands where no sentence goes on: the lexemes before it are a prefix of a
-- sentence
abbrev pub FaultIsFirst : Type 0
FaultIsFirst = (bytes : List ℕ) (kind : FaultKind) (place : ℕ) → (r : Refused bytes kind place)
    → FirstFault within_limit (lexemes bytes r.tokens) (fault kind r.rest)

-- ---- reading

-- a text is read as a program exactly where it is a text of it
abbrev pub ProgramIn : Type 0
ProgramIn =
    (bytes : List ℕ) (p : List DirectiveTree) → (program_in bytes ≡ Ok p) ↔ ProgramText bytes p

-- and a fault is found exactly where it is the first one
abbrev pub FaultIn : Type 0
FaultIn = (bytes : List ℕ) (f : TextFault) → (program_in bytes ≡ Err f) ↔ FaultyText bytes f

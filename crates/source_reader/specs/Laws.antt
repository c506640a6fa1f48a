-- The laws of the language.
use Rattle.std.specs.Prelude.{ℕ, ◌≡◌, ◌⊎◌, ◌↔◌, List, Ok, Err}
use Rattle.adv_text.specs.Reading.{Input}
use Rattle.adv_text.specs.Laws.{AreBytes}
use Rattle.source_reader.specs.declared.tokens.Token.{Token}
use Rattle.source_reader.specs.declared.tree.Source.{Source}
use Rattle.source_reader.specs.Faults.{Fault}
use Rattle.source_reader.specs.Tokens.{TokenTo, TokenFault, token_at}
use Rattle.source_reader.specs.Text.{SourceText, TextFault, source_in}
use Rattle.source_reader.specs.WellFormed.{WellFormed}

-- ---- tokens

-- a token is read exactly where it is spelled
abbrev pub TokenIsExact : Type 0
TokenIsExact = (s after : Input) (t : Token) → (token_at s ≡ Ok (t, after)) ↔ TokenTo s t after

-- a fault is answered exactly where it stands
abbrev pub TokenFaultIsExact : Type 0
TokenFaultIsExact = (s : Input) (fault : Fault) → (token_at s ≡ Err fault) ↔ TokenFault s fault

-- ---- texts

-- bytes are a text of a source, or they have a fault
abbrev pub TextOrFault : Type 0
TextOrFault =
    (bytes : List ℕ) → ((tree : Source) × SourceText bytes tree)
    ⊎ ((fault : Fault) × TextFault bytes fault)

-- and never both
abbrev pub NeverBoth : Type 0
NeverBoth =
    (bytes : List ℕ) (tree : Source) (fault : Fault) → SourceText bytes tree → TextFault bytes fault
    → ⊥

-- a text is one of one source
abbrev pub OneSource : Type 0
OneSource = (bytes : List ℕ) (a b : Source) → SourceText bytes a → SourceText bytes b → a ≡ b

-- bytes have one fault at most
abbrev pub OneFault : Type 0
OneFault = (bytes : List ℕ) (a b : Fault) → TextFault bytes a → TextFault bytes b → a ≡ b

-- bytes read as a source exactly where they are a text of it
abbrev pub SourceIn : Type 0
SourceIn = (bytes : List ℕ) (tree : Source) → (source_in bytes ≡ Ok tree) ↔ SourceText bytes tree

-- and as a fault exactly where it is their first one
abbrev pub FaultIn : Type 0
FaultIn = (bytes : List ℕ) (fault : Fault) → (source_in bytes ≡ Err fault) ↔ TextFault bytes fault

-- each source that has a text is well formed, and can be compiled
abbrev pub TextIsWellFormed : Type 0
TextIsWellFormed =
    (bytes : List ℕ) (tree : Source) → AreBytes bytes → SourceText bytes tree → WellFormed tree

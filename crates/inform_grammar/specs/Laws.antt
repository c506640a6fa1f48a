-- The laws of the grammar.
use Rattle.std.specs.Prelude.{ℕ, ◌<◌, Bool, true, false, ◌≡◌, ◌⊎◌, List, [], ◌∷◌, ◌++◌, Some, Ok, Err}
use Rattle.inform_tree.specs.Programs.{DirectiveTree}
use Rattle.inform_lexemes.specs.Lexemes.{Lexeme}
use Rattle.inform_grammar.specs.Faults.{FaultKind, Unexpected, Mixed, TooDeep, Fault}
use Rattle.inform_grammar.specs.Lexemes.{is_opener, is_connective, swapped}
use Rattle.inform_grammar.specs.Rule.{program}
use Rattle.inform_grammar.specs.Reading.{input, reads, open_before, no_limit}
use Rattle.inform_grammar.specs.Sentences.{Sentence}

-- ---- sentences

-- a sentence is read as its program, to its end
abbrev pub SentenceIsRead : Type 0
SentenceIsRead =
    (room : ℕ → Bool) (p : List DirectiveTree) (ts : List Lexeme) → Sentence room p ts
    → reads room ts program 0 ≡ Ok (p, input 0 [])

-- what is read as a program is a sentence of it
abbrev pub ReadIsSentence : Type 0
ReadIsSentence =
    (room : ℕ → Bool) (p : List DirectiveTree) (ts : List Lexeme) (n : ℕ) (rest : List Lexeme)
    → reads room ts program 0 ≡ Ok (p, input n rest) → Sentence room p ts

-- a list of lexemes has one program at most
abbrev pub OneProgram : Type 0
OneProgram =
    (room : ℕ → Bool) (p q : List DirectiveTree) (ts : List Lexeme) → Sentence room p ts
    → Sentence room q ts → p ≡ q

-- each list of lexemes is a sentence, or it has a fault
abbrev pub SentenceOrFault : Type 0
SentenceOrFault =
    (room : ℕ → Bool) (ts : List Lexeme) → ((p : List DirectiveTree) × Sentence room p ts)
    ⊎ ((f : Fault) × (reads room ts program 0 ≡ Err f))

-- and never both
abbrev pub NeverBoth : Type 0
NeverBoth =
    (room : ℕ → Bool) (p : List DirectiveTree) (ts : List Lexeme) (f : Fault) → Sentence room p ts
    → reads room ts program 0 ≡ Err f → ⊥

-- ---- the first fault

-- these lexemes are a prefix of a sentence
abbrev pub IsPrefix : (ℕ → Bool) → List Lexeme → Type 0
IsPrefix room ts = (more : List Lexeme) × (p : List DirectiveTree) × Sentence room p (ts ++ more)

-- no sentence goes on with the first of the other lexemes, or ends where there is none
abbrev pub NoneGoesOn : (ℕ → Bool) → List Lexeme → List Lexeme → Type 0
NoneGoesOn room before [] = (p : List DirectiveTree) → Sentence room p before → ⊥
NoneGoesOn room before (x ∷ rest) = IsPrefix room (before ++ x ∷ []) → ⊥

-- where a connective stands next, none goes on with the other one either
abbrev pub NoOtherGoesOn : List Lexeme → List Lexeme → Type 0
NoOtherGoesOn before [] = Unit {0}
NoOtherGoesOn before (x ∷ rest) =
    is_connective x ≡ true → IsPrefix no_limit (before ++ swapped x ∷ []) → ⊥

-- there is no room where so many are open, but there was for each of them
abbrev pub IsFull : (ℕ → Bool) → ℕ → Type 0
IsFull room n = (room n ≡ false) × ((k : ℕ) → k < n → room k ≡ true)

-- why each kind of fault stands between some lexemes and the others
abbrev pub Explains : (ℕ → Bool) → FaultKind → List Lexeme → List Lexeme → Type 0
-- no sentence goes on here, whatever room it takes, nor with the other connective
Explains room Unexpected before rest = NoneGoesOn no_limit before rest × NoOtherGoesOn before rest
-- the same at a connective, in whose place a sentence goes on with the other one
Explains room Mixed before (x ∷ rest) =
    (is_connective x ≡ true) × NoneGoesOn no_limit before (x ∷ rest)
    × IsPrefix no_limit (before ++ swapped x ∷ [])
-- a sentence goes on with this opener, but so many are open before it that there is no room
Explains room TooDeep before (x ∷ rest) =
    (is_opener x ≡ true) × IsPrefix no_limit (before ++ x ∷ [])
    × ((n : ℕ) × (open_before before x program 0 ≡ Some n) × IsFull room n)
Explains room kind before [] = ⊥

-- a fault of these lexemes, with those before it
pub record FirstFault (room : ℕ → Bool) (ts : List Lexeme) (f : Fault) : Type 0 where
  pub before : List Lexeme
  pub whole : ts ≡ before ++ f.rest
  -- the lexemes before it are a prefix of a sentence, whatever room that takes
  pub begun : IsPrefix no_limit before
  -- no sentence within the room goes on
  pub ends : NoneGoesOn room before f.rest
  pub stands : Explains room f.kind before f.rest

-- the fault that is read is the first one
abbrev pub FaultIsFirst : Type 0
FaultIsFirst =
    (room : ℕ → Bool) (ts : List Lexeme) (f : Fault) → reads room ts program 0 ≡ Err f
    → FirstFault room ts f

-- The world of a run, and what is left to it.
use Rattle.std.specs.Prelude.{ℕ, ◌+◌, ℤ, pos, negsuc, unsigned_abs, Bool, true, false, if◌then◌else◌, nat_le, min, List, [], ◌∷◌, ◌++◌, map, length, take, drop, set, slice_get, Option, Some, None, is_some, unwrap_or}
use Rattle.adv_io.specs.Steps.{Step, Noted, said_steps}
use Rattle.inform_tree.specs.declared.widths.Width.{Width}
use Rattle.inform_tree.specs.Statements.{Statements}
use Rattle.inform_meaning.specs.Words.{low_byte}
use Rattle.inform_meaning.specs.Tables.{found, updated, renewed, first_of_two}

-- ---- the program that runs

pub record Routine : Type 0 where
  pub directive : ℕ  -- its number among the directives
  pub locals : List (List ℕ)
  pub body : Statements

pub record Program : Type 0 where
  pub width : Width
  pub constants : List ℕ → Option ℤ
  pub routines : List ℕ → Option Routine
  -- the number that is noted where a routine of this name and directive is entered
  pub notes : List ℕ → ℕ → Option ℕ

-- ---- the world

-- the routine that runs, by its directive, and its locals
pub record Scope : Type 0 where
  pub directive : ℕ
  pub locals : List (List ℕ × ℤ)

pub record World : Type 0 where
  pub globals : List ℕ → Option ℤ
  pub arrays : List ℕ → Option (List ℤ)
  pub scope : Scope

-- the steps, lines and draws that are left, what happened so far, and the world
pub record Config : Type 0 where
  pub steps : ℕ
  pub lines : List (List ℕ)
  pub draws : List ℕ
  pub past : List Step
  pub world : World

-- ---- variables

-- a local, else a global, else a constant
abbrev pub value_of : Program → List ℕ → World → ℤ
value_of p name w = unwrap_or (first_of_two (found name w.scope.locals)
    (first_of_two (w.globals name) (p.constants name))) (pos 0)

abbrev pub assigned_by : Bool → List ℕ → ℤ → World → World
assigned_by true name v w = record w
    { scope = record { directive = w.scope.directive; locals = updated name v w.scope.locals } }
assigned_by false name v w = record w { globals = renewed w.globals name v }

-- another value of a local, or of a global where there is no such local
abbrev pub assigned : List ℕ → ℤ → World → World
assigned name v w = assigned_by (is_some (found name w.scope.locals)) name v w

-- ---- arrays

abbrev pub entries_of : List ℕ → World → List ℤ
entries_of name w = unwrap_or (w.arrays name) []

abbrev pub entry_at : List ℤ → ℤ → Option ℤ
entry_at entries (pos n) = slice_get entries n
entry_at entries (negsuc n) = None

-- what an entry keeps of a word: all of it, or its low 8 bits in an array of bytes
abbrev pub kept : Bool → ℤ → ℤ
kept true v = v
kept false v = pos (low_byte v)

abbrev pub with_entries : List ℕ → List ℤ → World → World
with_entries name entries w = record w { arrays = renewed w.arrays name entries }

-- another value of an entry
abbrev pub stored : List ℕ → Bool → ℤ → ℤ → World → World
stored name words index v w =
    with_entries name (set (entries_of name w) (unsigned_abs index) (kept words v)) w

-- ---- lines

-- the number of bytes for which a line buffer has room: its first entry
abbrev pub capacity : List ℤ → ℕ
capacity entries = unsigned_abs (unwrap_or (slice_get entries 0) (pos 0))

abbrev pub has_room : List ℤ → Bool
has_room entries = nat_le (capacity entries + 2) (length entries)

-- a line in its buffer: how many of its bytes are kept, and these
abbrev pub filled_by : ℕ → List ℤ → List ℕ → List ℤ
filled_by count entries line =
    (take 1 entries ++ pos count ∷ map pos (take count line)) ++ drop (count + 2) entries

abbrev pub filled : List ℤ → List ℕ → List ℤ
filled entries line = filled_by (min (length line) (capacity entries)) entries line

abbrev pub with_line : List ℕ → List ℕ → World → World
with_line name line w = with_entries name (filled (entries_of name w) line) w

-- ---- calls

-- one argument more; a call has seven at most
abbrev pub with_argument : List ℤ → ℤ → List ℤ
with_argument values v = if nat_le 7 (length values) then values else values ++ v ∷ []

-- each local with its argument, the others with 0
abbrev pub bound : List (List ℕ) → List ℤ → List (List ℕ × ℤ)
bound [] values = []
bound (name ∷ names) [] = (name, pos 0) ∷ bound names []
bound (name ∷ names) (v ∷ values) = (name, v) ∷ bound names values

abbrev pub scope_of : Routine → List ℤ → Scope
scope_of r values = record { directive = r.directive; locals = bound (take 15 r.locals) values }

-- ---- what happened

abbrev pub with_said : List ℕ → Config → Config
with_said bytes c = record c { past = c.past ++ said_steps bytes }

-- an entered routine, if it is one that is noted
abbrev pub with_note : Option ℕ → List Step → List Step
with_note None past = past
with_note (Some number) past = past ++ Noted number ∷ []

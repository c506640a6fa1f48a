-- The specification of the word reader: it finds in a line what the rules hear.
use Rattle.std.specs.Prelude.{◌≡◌, ℕ, ◌+◌, ◌≤◌, ℤ, pos, List, [], ◌∷◌, codes, Option, Some, None}
use Rattle.adv_io.specs.TypedLine.{IsTyped}
use Rattle.inform_meaning.specs.Worlds.{Program}
use Rattle.inform_logic.specs.Stages.{Stage}
use Rattle.inform_logic.specs.Leading.{Does}
use Rattle.scott_types.specs.declared.states.State.{State}
use Rattle.scott_types.specs.declared.commands.Heard.{Heard}
use Rattle.scott_types.specs.declared.commands.Heard.TheVariants.{Blank, Unknown, Command}
use Rattle.scott_types.specs.Database.{Database}
use Rattle.scott_rules.specs.Commands.{Span, split, typed_noun, heard}
use Rattle.trans_specs.specs.Tables.{or_zero}
use Rattle.trans_specs.specs.Standing.{Ready, StandsFor, HasLine}
use Rattle.trans_specs.specs.Steps.{reader_steps}
use Rattle.trans_specs.specs.Programs.{IsOther}

-- the verb of what was heard, 0 for none, and its noun, 0 for none
abbrev pub verb_heard : Heard → ℕ
verb_heard Blank = 0
verb_heard (Unknown start size) = 0
verb_heard (Command verb noun) = verb

abbrev pub noun_heard : Heard → ℕ
noun_heard Blank = 0
noun_heard (Unknown start size) = 0
noun_heard (Command verb noun) = or_zero noun

-- where a word begins among the entries of the buffer, and its length; a word that isn't there has
-- no length
abbrev pub WordSeen : Option Span → Option ℤ → Option ℤ → Type 0
WordSeen None begin size = size ≡ Some (pos 0)
WordSeen (Some span) begin size = (begin ≡ Some (pos (span.0 + 2))) × (size ≡ Some (pos span.1))

abbrev pub word_globals : List (List ℕ)
word_globals = codes "vnum" ∷ codes "nnum" ∷ codes "wa" ∷ codes "na" ∷ codes "wb" ∷ codes "nb"
    ∷ []

abbrev pub buffer_arrays : List (List ℕ)
buffer_arrays = codes "buf" ∷ codes "pbuf" ∷ []

-- What the reader leaves of a line: the verb and the noun that are heard, where the two words
-- stand, the same state with the noun as it was typed, and all else as it was.
pub record WordsRead (db : Database) (s : State) (line : List ℕ) (w w' : Stage) : Type 0 where
  pub verb_is : w'.globals (codes "vnum") ≡ Some (pos (verb_heard (heard db line)))
  pub noun_is : w'.globals (codes "nnum") ≡ Some (pos (noun_heard (heard db line)))
  pub first_word :
      WordSeen (split line).first (w'.globals (codes "wa")) (w'.globals (codes "na"))
  pub second_word :
      WordSeen (split line).second (w'.globals (codes "wb")) (w'.globals (codes "nb"))
  pub stands : StandsFor db s (typed_noun line) w'
  pub line_stays : HasLine line w'
  pub past_stays : w'.past ≡ w.past
  pub lines_stay : w'.lines ≡ w.lines
  pub draws_stay : w'.draws ≡ w.draws
  pub globals_stay : (name : List ℕ) → IsOther name word_globals
      → w'.globals name ≡ w.globals name
  pub arrays_stay : (name : List ℕ) → IsOther name buffer_arrays → w'.arrays name ≡ w.arrays name

-- a call of the reader
pub record Reads (db : Database) (p : Program) (name : List ℕ) (s : State) (line : List ℕ)
    (w : Stage) (d : ℕ) : Type 0 where
  pub value : ℤ
  pub after : Stage
  pub does : Does p d name [] w value after (reader_steps db)
  pub read : WordsRead db s line w after

-- so many calls may be opened where at most 100 of 200 are open
abbrev pub reader_room : ℕ
reader_room = 100

-- the reader, on a typed line that stands in the buffer
abbrev pub ReaderSpec : Database → Program → List ℕ → Type 0
ReaderSpec db p name = (s : State) (line : List ℕ) (w : Stage) (d : ℕ) → reader_room ≤ d
    → IsTyped line → Ready db s w → HasLine line w → Reads db p name s line w d

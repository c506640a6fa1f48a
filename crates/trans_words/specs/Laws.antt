-- The laws of the word reader.
use Rattle.std.specs.Prelude.{◌≡◌, ℕ, true, List, [], ◌∷◌, codes}
use Rattle.inform_tree.specs.Formed.{is_well_formed}
use Rattle.scott_types.specs.Database.{Database}
use Rattle.scott_types.specs.Limits.{KeepsLimits}
use Rattle.trans_specs.specs.Programs.{IsOther}
use Rattle.trans_specs.specs.Meeting.{MeetReaderSpec}
use Rattle.trans_specs.specs.Shaped.{program_calls}
use Rattle.trans_words.specs.Directives.{word_directives}

-- `hear()` finds in a typed line what the rules hear, in every program that has these directives
-- and the tables of the database.
abbrev pub LinesAreHeard : Type 0
LinesAreHeard = (db : Database) → MeetReaderSpec db (word_directives db) (codes "hear")

-- The directives of a database that keeps its limits have a text.
abbrev pub ReaderIsFormed : Type 0
ReaderIsFormed = (db : Database) → KeepsLimits db → is_well_formed (word_directives db) ≡ true

-- the routines of the reader that its routines call
abbrev pub reader_parts : List (List ℕ)
reader_parts = codes "after_spaces" ∷ codes "after_word" ∷ codes "heard_verb" ∷ codes "heard_noun"
    ∷ codes "find_verb" ∷ codes "first_verb" ∷ codes "find_noun" ∷ codes "first_noun" ∷ []

-- They call no other routine.
abbrev pub ReaderCallsItself : Type 0
ReaderCallsItself = (db : Database) (name : List ℕ) → IsOther name reader_parts
    → program_calls name (word_directives db) ≡ 0

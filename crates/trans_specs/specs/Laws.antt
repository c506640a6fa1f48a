-- The laws of views, names and rounds, and of the stage with which a translated game opens.
use Rattle.std.specs.Prelude.{◌≡◌, ◌↔◌, ℕ, zero, suc, ◌+◌, ◌*◌, ◌<◌, ◌≤◌, ◌^◌, ℤ, pos, true, IsTrue, List, [], ◌++◌, length, slice_index, slice_index_or, codes, Some, None}
use Rattle.std.specs.List.{AllByRecursion}
use Rattle.inform_tree.specs.declared.widths.Width.{Width}
use Rattle.inform_tree.specs.declared.widths.Width.TheVariants.{W32}
use Rattle.inform_tree.specs.Programs.{DirectiveTree}
use Rattle.inform_meaning.specs.Words.{number_word}
use Rattle.inform_logic.specs.Stages.{Stage, with_global}
use Rattle.inform_logic.specs.Holding.{opening_stage, Distinct}
use Rattle.scott_types.specs.declared.parts.Action.{Action}
use Rattle.scott_types.specs.declared.states.State.{State}
use Rattle.scott_types.specs.declared.endings.Position.{Position}
use Rattle.scott_types.specs.declared.commands.Column.{Column}
use Rattle.scott_types.specs.declared.commands.Column.TheVariants.{Nouns}
use Rattle.scott_types.specs.Database.{Database, room_at}
use Rattle.scott_types.specs.Room.{exit_of}
use Rattle.scott_types.specs.Action.{verb_of, argument_of, opcode_numbers}
use Rattle.scott_types.specs.Limits.{KeepsLimits}
use Rattle.scott_types.specs.State.{Fits}
use Rattle.scott_types.specs.Style.{Game}
use Rattle.scott_rules.specs.Words.{is_typed, entries_of, root}
use Rattle.scott_rules.specs.Play.{go}
use Rattle.scott_rules.specs.Laws.{IsBaseEntryOf}
use Rattle.trans_specs.specs.Tables.{exits, entry_letters, word_letters, bases, is_class, class_of, class_of_noun}
use Rattle.trans_specs.specs.Wide.{is_word_of, wide_at}
use Rattle.trans_specs.specs.Names.{line_name, line_number}
use Rattle.trans_specs.specs.Views.{Shows}
use Rattle.trans_specs.specs.Standing.{StandsFor}
use Rattle.trans_specs.specs.Directives.{data_directives}
use Rattle.trans_specs.specs.Rounds.{round, then_rounds}

-- A stage shows one state at most.
abbrev pub OneStateAStage : Type 0
OneStateAStage = (s t : State) (w : Stage) → Shows s w → Shows t w → s ≡ t

-- A global that shows no state may be written, and the stage shows what it showed.
abbrev pub OverShowsNothing : Type 0
OverShowsNothing = (s : State) (w : Stage) (z : ℤ) → Shows s w
    → Shows s (with_global (codes "over") z w)

-- The number of a line is read from the name of its routine.
abbrev pub LinesAreNumbered : Type 0
LinesAreNumbered = (k : ℕ) → k < 2 ^ 64 → line_number (line_name k) ≡ Some k

-- A play is one round, and then the others.
abbrev pub PlaysAreRounds : Type 0
PlaysAreRounds = (game : Game) (position : Position) (s : State) (lines : List (List ℕ))
    (draws : List ℕ)
    → go game position s lines draws ≡ then_rounds game (round game position s lines draws)

-- No number of a database is too wide for words of 32 bits.
abbrev pub NoneWideAt32 : Type 0
NoneWideAt32 = (db : Database) → KeepsLimits db → wide_at W32 db ≡ None

-- A number that is a word of a width stands for itself in a program of that width.
abbrev pub NumbersAreTheirWords : Type 0
NumbersAreTheirWords = (width : Width) (n : ℕ) → is_word_of width (pos n) ≡ true
    → number_word width n ≡ pos n

-- the numbers of a line that stand in a program are words
pub record HasWords (width : Width) (a : Action) : Type 0 where
  pub verb : is_word_of width (pos (verb_of a.vocab)) ≡ true
  pub arguments : AllByRecursion (λ c. is_word_of width (pos (argument_of c)) ≡ true) a.conds
  pub opcodes : AllByRecursion (λ n. is_word_of width (pos n) ≡ true) (opcode_numbers a)

-- Where no number of a database is too wide, each verb, argument and opcode of a line is a word.
abbrev pub LinesHaveWords : Type 0
LinesHaveWords = (width : Width) (db : Database) → wide_at width db ≡ None
    → AllByRecursion (HasWords width) db.actions

-- The exit of a room in a direction stands at six times the room and the direction.
abbrev pub ExitsStand : Type 0
ExitsStand = (db : Database) (room direction : ℕ) → KeepsLimits db → room < length db.rooms
    → direction < 6 → slice_index (exits db) (6 * room + direction)
    ≡ exit_of (length db.rooms) (room_at db room).exits direction

-- The letters of an entry stand at its number times as many as count.
abbrev pub LettersStand : Type 0
LettersStand = (db : Database) (column : Column) (k i : ℕ)
    → k < length (entries_of db column) → i < db.header.length
    → slice_index (word_letters db column) (db.header.length * k + i)
    ≡ slice_index (entry_letters db.header.length (slice_index_or (entries_of db column) k [])) i

-- an entry has this base entry, where it isn't 0, and else none
abbrev pub BaseIs : List (List ℕ) → ℕ → ℕ → Type 0
BaseIs entries k zero = (base : ℕ) → ¬ (IsBaseEntryOf entries k base)
BaseIs entries k (suc base) = IsBaseEntryOf entries k (suc base)

-- The base that the table has of an entry from 1 on is its base entry.
abbrev pub BasesAreBaseEntries : Type 0
BasesAreBaseEntries = (entries : List (List ℕ)) (k : ℕ) → 1 ≤ k → k < length entries
    → BaseIs entries k (slice_index (bases entries) k)

-- A word and a noun that has a class have one class exactly where the word is typed as the noun is.
abbrev pub ClassesTell : Type 0
ClassesTell = (db : Database) (k : ℕ) (word : List ℕ) → KeepsLimits db → 1 ≤ k
    → k < length (entries_of db Nouns) → IsTrue (is_class (root db k))
    → (class_of db word ≡ class_of_noun db (root db k))
    ↔ IsTrue (is_typed db.header.length word (root db k))

-- No two of the directives of the globals and arrays have one name.
abbrev pub DataDistinct : Type 0
DataDistinct = (db : Database) (s : State) → Distinct (data_directives db s)

-- A program that begins with these directives opens with a stage that stands for the state and the
-- empty noun text, where no number is too wide.
abbrev pub OpeningStands : Type 0
OpeningStands = (width : Width) (db : Database) (s : State) (others : List DirectiveTree)
    (lines : List (List ℕ)) (draws : List ℕ) → KeepsLimits db → Fits db s
    → wide_at width db ≡ None → Distinct (data_directives db s ++ others)
    → StandsFor db s [] (opening_stage width (data_directives db s ++ others) lines draws)

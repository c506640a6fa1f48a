-- The laws of the rules, in the subject's own words, for every style.
use Rattle.std.specs.Prelude.{ℕ, ◌≡◌, ◌≢◌, ◌<◌, ◌≤◌, ◌++◌, List, [], length, slice_index_or, IsTrue, IsFalse, MatchOption}
use Rattle.scott_types.specs.declared.states.State.{State}
use Rattle.scott_types.specs.declared.styles.Style.{Style}
use Rattle.scott_types.specs.declared.commands.Column.{Column}
use Rattle.scott_types.specs.declared.endings.Ran.TheVariants.{Not}
use Rattle.scott_types.specs.declared.endings.Transfer.{Transfer}
use Rattle.scott_types.specs.declared.endings.Position.{Position}
use Rattle.scott_types.specs.declared.endings.Position.TheVariants.{Fresh, Over}
use Rattle.scott_types.specs.declared.opcodes.Opcode.{Opcode}
use Rattle.scott_types.specs.Database.{Database}
use Rattle.scott_types.specs.Style.{Game}
use Rattle.scott_types.specs.Limits.{KeepsLimits}
use Rattle.scott_types.specs.ItemText.{is_starred}
use Rattle.scott_types.specs.State.{Fits}
use Rattle.adv_io.specs.Steps.{Spends, Step, Traced, after, traced}
use Rattle.scott_rules.specs.Words.{is_typed, spelling, entries_of, which}
use Rattle.scott_rules.specs.Actions.{ActionOutcome, action_result}
use Rattle.scott_rules.specs.Light.{light_counted}
use Rattle.scott_rules.specs.Opcodes.{by_opcode, by_score, changed}
use Rattle.scott_rules.specs.Transfer.{transferred}
use Rattle.scott_rules.specs.Rounds.{walk_result, advance, answer}
use Rattle.scott_rules.specs.Play.{PlayEnd, go}

-- ---- words

abbrev pub entry_at : List (List ℕ) → ℕ → List ℕ
entry_at entries k = slice_index_or entries k []

-- the entry `plain` is the nearest one at or before k that is no synonym; entry 0 doesn't count
pub record IsBaseEntryOf (entries : List (List ℕ)) (k base : ℕ) : Type 0 where
  pub counted : 1 ≤ base
  pub before : base ≤ k
  pub is_base : IsFalse (is_starred (entry_at entries base))
  pub nearest : (j : ℕ) → base < j → j ≤ k → IsTrue (is_starred (entry_at entries j))

-- an entry from 1 on matches a word where the word is typed so and the entry stands for a base
-- entry
pub record EntryMatches (size : ℕ) (entries : List (List ℕ)) (word : List ℕ) (k : ℕ) : Type 0 where
  pub there : k < length entries
  pub typed : IsTrue (is_typed size (spelling (entry_at entries k)) word)
  pub stands_for : (base : ℕ) × IsBaseEntryOf entries k base

-- the answer is the base entry of the least entry that matches
pub record IsLeastMatch (size : ℕ) (entries : List (List ℕ)) (word : List ℕ) (answer : ℕ) : Type 0
  where
    pub entry : ℕ
    pub matches : EntryMatches size entries word entry
    pub least : (j : ℕ) → j < entry → ¬ (EntryMatches size entries word j)
    pub base : IsBaseEntryOf entries entry answer

-- a word names the base entry of the least entry that matches, or nothing where none does
abbrev pub WordNamesLeastMatch : Type 0
WordNamesLeastMatch = (db : Database) (column : Column) (word : List ℕ)
    → MatchOption (which db column word)
    ((k : ℕ) → ¬ (EntryMatches db.header.length (entries_of db column) word k))
    (λ answer. IsLeastMatch db.header.length (entries_of db column) word answer)

-- ---- lines

pub record DoesNothing (s : State) (t : Traced ℕ ActionOutcome) : Type 0 where
  pub said : t.events ≡ []
  pub state : t.value.state ≡ s

-- a line that doesn't pass says nothing and changes nothing
abbrev pub FailedActionDoesNothing : Type 0
FailedActionDoesNothing = (game : Game) (noun : List ℕ) (line : ℕ) (s : State)
    → (action_result game noun line s).value.ran ≡ Not
    → DoesNothing s (action_result game noun line s)

-- ---- plays

-- a play that stopped, gone on with more lines and draws, is the play on the joined lists
abbrev pub PlaySplits : Type 0
PlaySplits =
    (game : Game) (position : Position) (s : State) (lines more : List (List ℕ))
    (draws further : List ℕ)
    → go game position s (lines ++ more) (draws ++ further)
    ≡ after (go game position s lines draws).events
    (go game (go game position s lines draws).value.position
    (go game position s lines draws).value.state
    ((go game position s lines draws).value.lines ++ more)
    ((go game position s lines draws).value.draws ++ further))

-- what a play takes and draws, followed by what is left, is what there was
abbrev pub PlaySpends : Type 0
PlaySpends =
    (game : Game) (position : Position) (s : State) (lines : List (List ℕ)) (draws : List ℕ)
    → let t =
    go game position s lines draws in Spends lines draws t.events t.value.lines t.value.draws

-- a turn of the light leaves a state that fits
abbrev pub LightFits : Type 0
LightFits =
    (db : Database) (style : Style) (s : State) → KeepsLimits db → Fits db s
    → Fits db (light_counted style s).value

-- an opcode leaves a state that fits
abbrev pub OpcodeFits : Type 0
OpcodeFits =
    (db : Database) (opcode : Opcode) (p q : ℕ) (s : State) → KeepsLimits db → Fits db s
    → Fits db (changed db opcode p q s)

-- an action line leaves a state that fits
abbrev pub ActionFits : Type 0
ActionFits =
    (game : Game) (noun : List ℕ) (line : ℕ) (s : State) → KeepsLimits game.db → Fits game.db s
    → Fits game.db (action_result game noun line s).value.state

-- an item that is got or dropped leaves a state that fits
abbrev pub TransferFits : Type 0
TransferFits =
    (db : Database) (t : Transfer) (item : ℕ) (s : State) → KeepsLimits db → Fits db s
    → Fits db (transferred t item s)

-- a walk in a direction leaves a state that fits
abbrev pub WalkFits : Type 0
WalkFits =
    (game : Game) (noun : ℕ) (s : State) → KeepsLimits game.db → Fits game.db s
    → Fits game.db (walk_result game noun s).value.state

-- every state that a play leaves fits its database
abbrev pub PlayFits : Type 0
PlayFits = (game : Game) (position : Position) (s : State) (lines : List (List ℕ)) (draws : List ℕ)
    → KeepsLimits game.db → Fits game.db s → Fits game.db
    (go game position s lines draws).value.state

-- a play stops at a prompt, at a draw or at the game's end, and never where a round begins
abbrev pub PlayStops : Type 0
PlayStops = (game : Game) (position : Position) (s : State) (lines : List (List ℕ)) (draws : List ℕ)
    → (go game position s lines draws).value.position ≢ Fresh

-- the same play, with more lines and draws left
abbrev pub with_more : List (List ℕ) → List ℕ → Traced Step PlayEnd → Traced Step PlayEnd
with_more more further t =
    traced t.events
    (record t.value { lines = t.value.lines ++ more; draws = t.value.draws ++ further })

-- an ending stays: more lines and draws are left untouched
abbrev pub EndingStays : Type 0
EndingStays =
    (game : Game) (position : Position) (s : State) (lines more : List (List ℕ))
    (draws further : List ℕ) (ending : ℕ)
    → (go game position s lines draws).value.position ≡ Over ending
    → go game position s (lines ++ more) (draws ++ further)
    ≡ with_more more further (go game position s lines draws)

-- ---- endings

-- the endings that there are: 1 by an opcode, 2 by a fall in the dark, 3 by a full score
abbrev pub IsEnding : ℕ → Type 0
IsEnding ending = (by_opcode ≤ ending) × (ending ≤ by_score)

-- where a game is over, it ended with one of these
abbrev pub EndsWell : Position → Type 0
EndsWell (Over ending) = IsEnding ending
EndsWell _ = Unit

-- what is done up to the prompt ends a game with 1, 2 or 3
abbrev pub AdvanceEndsWell : Type 0
AdvanceEndsWell = (game : Game) (position : Position) (s : State) (draws : List ℕ)
    → EndsWell position → EndsWell (advance game position s draws).value.position

-- the answer to a line ends a game with 1, 2 or 3
abbrev pub AnswerEndsWell : Type 0
AnswerEndsWell =
    (game : Game) (line : List ℕ) (s : State) → EndsWell (answer game line s).value.position

-- a play ends a game with 1, 2 or 3
abbrev pub EndingsAreThree : Type 0
EndingsAreThree =
    (game : Game) (position : Position) (s : State) (lines : List (List ℕ)) (draws : List ℕ)
    → EndsWell position → EndsWell (go game position s lines draws).value.position

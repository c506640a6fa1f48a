-- The smallest parts of a meaning: a step, a trap, a draw, a line, bytes that are said, entries and
-- variables.
use Rattle.std.specs.Prelude.{ℕ, zero, suc, ℤ, pos, int_lt, Bool, List, [], ◌∷◌, ◌++◌, Option, Some, None}
use Rattle.adv_io.specs.Steps.{Took, Drew}
use Rattle.inform_meaning.specs.declared.traps.Trap.{Trap}
use Rattle.inform_meaning.specs.declared.traps.Trap.TheVariants as t
use Rattle.inform_meaning.specs.Words.{word_sum, draw_within}
use Rattle.inform_meaning.specs.Worlds.{Program, World, value_of, assigned, entries_of, entry_at, stored, has_room, with_line, with_said}
use Rattle.inform_meaning.specs.Frames.{DrawDue, LineDue, Frame, Begins, Trapped, NeedsLine, NeedsDraw, Spent, Value, Normal, Halts, Waits, Meaning, when}

-- ---- steps and traps

abbrev pub tick_at : ℕ → Frame → Meaning → Meaning
tick_at zero f m c = (Waits Spent (f ∷ []), c)
tick_at (suc n) f m c = m (record c { steps = n })

-- one step, and then the rest; where no step is left, the frame waits
unfoldable pub tick : Frame → Meaning → Meaning
tick f m = λ c. tick_at c.steps f m c

-- the run is over, in the routine that runs
abbrev pub trap : Trap → Meaning
trap kind = λ c. (Halts (Trapped kind c.world.scope.directive), c)

-- ---- draws and lines

abbrev pub draw_at : List ℕ → ℤ → Meaning
draw_at [] n c = (Waits NeedsDraw (Begins (DrawDue n) ∷ []), c)
draw_at (draw ∷ draws) n c = (
  Value (draw_within n draw),
  record c
      { draws = draws; past = c.past ++ Drew draw ∷ [] },
)

-- a number of 1 to n by the next draw
abbrev pub take_draw : ℤ → Meaning
take_draw n = λ c. draw_at c.draws n c

abbrev pub random_to : ℤ → Meaning
random_to n = when (int_lt n (pos 1)) (trap t.Random) (take_draw n)

abbrev pub line_at : List (List ℕ) → List ℕ → Meaning
line_at [] name c = (Waits NeedsLine (Begins (LineDue name) ∷ []), c)
line_at (line ∷ lines) name c = (
  Normal,
  record c
      { lines = lines; past = c.past ++ Took line ∷ []; world = with_line name line c.world },
)

-- the next line into a buffer
abbrev pub take_line : List ℕ → Meaning
take_line name = λ c. line_at c.lines name c

abbrev pub read_line : List ℕ → Meaning
read_line name = λ c. when (has_room (entries_of name c.world)) (take_line name) (trap t.Line) c

-- ---- variables, entries and bytes

abbrev pub variable : Program → List ℕ → Meaning
variable p name = λ c. (Value (value_of p name c.world), c)

abbrev pub changes : (World → World) → Meaning
changes f = λ c. (Normal, record c { world = f c.world })

-- a variable counts by 1 or -1
abbrev pub counts : Program → List ℕ → ℤ → Meaning
counts p name by = changes (λ w. assigned name (word_sum p.width (value_of p name w) by) w)

abbrev pub entry_by : Option ℤ → Meaning
entry_by None = trap t.Index
entry_by (Some v) = λ c. (Value v, c)

abbrev pub fetch : List ℕ → ℤ → Meaning
fetch name index = λ c. entry_by (entry_at (entries_of name c.world) index) c

abbrev pub store_by : Option ℤ → (World → World) → Meaning
store_by None f = trap t.Index
store_by (Some old) f = changes f

abbrev pub store : List ℕ → Bool → ℤ → ℤ → Meaning
store name words index v =
    λ c. store_by (entry_at (entries_of name c.world) index) (stored name words index v) c

-- bytes are said, and then the rest
unfoldable pub saying : List ℕ → Meaning → Meaning
saying bytes m = λ c. m (with_said bytes c)

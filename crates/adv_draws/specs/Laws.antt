-- What lists of draws are, in laws: a run alone, and two texts with a byte of whitespace between
-- them.
use Rattle.std.specs.Prelude.{◌≡◌, ℕ, ◌+◌, true, List, [], ◌∷◌, ◌++◌, length, Result, Ok, Err}
use Rattle.std.specs.List.{list_all}
use Rattle.adv_io.specs.Text.{is_whitespace}
use Rattle.adv_draws.specs.Run.{is_solid, draw_of}
use Rattle.adv_draws.specs.Listed.{followed_by, with_draw, listed_draws}

-- the same further on: a fault's place moves with its text
abbrev pub moved_by : ℕ → Result (List ℕ) ℕ → Result (List ℕ) ℕ
moved_by distance (Ok draws) = Ok draws
moved_by distance (Err offset) = Err (distance + offset)

-- the draws of both, or the first fault
abbrev pub joined_with : Result (List ℕ) ℕ → Result (List ℕ) ℕ → Result (List ℕ) ℕ
joined_with (Ok draws) second = followed_by draws second
joined_with (Err offset) second = Err offset

-- no bytes list no draws
abbrev pub NothingLists : Type 0
NothingLists = listed_draws [] ≡ Ok []

-- a text that is one run lists its draw, or has its fault at its start
abbrev pub RunAlone : Type 0
RunAlone =
    (byte : ℕ) (run : List ℕ) → list_all is_solid (byte ∷ run) ≡ true
    → listed_draws (byte ∷ run) ≡ with_draw (draw_of (byte ∷ run)) 0 (Ok [])

-- two texts with a byte of whitespace between them list the draws of both, or have the first fault
-- of both
abbrev pub SpaceBetween : Type 0
SpaceBetween =
    (first second : List ℕ) (space : ℕ) → is_whitespace space ≡ true
    → listed_draws (first ++ space ∷ second)
    ≡ joined_with (listed_draws first) (moved_by (length first + 1) (listed_draws second))

-- What is so of every game that is made, and parts of one that were worked out apart.
use Rattle.std.specs.Prelude.{ℕ, ◌≡◌, ◌+◌, ◌*◌, ◌≤◌, pos, [], ◌∷◌, codes}
use Rattle.scott_types.specs.Limits.{KeepsLimits}
use Rattle.adv_gen.specs.Picks.{picks_before}
use Rattle.adv_gen.specs.Rooms.{room_picks, exits}
use Rattle.adv_gen.specs.Items.{item_picks, item_place}
use Rattle.adv_gen.specs.Actions.{action_picks}
use Rattle.adv_gen.specs.TypedLines.{line_picks, typed_line}
use Rattle.adv_gen.specs.Made.{at_rooms, at_items, at_lines, database}

-- a database that is made is one
abbrev pub MadeKeepsLimits : Type 0
MadeKeepsLimits = (size : ℕ) → 8 ≤ size → size ≤ 120 → KeepsLimits (database size)

-- how many picks the rooms, the items, the actions and the lines take together
abbrev pub picks_of_game : ℕ → ℕ
picks_of_game size =
    picks_before room_picks (size + 1) + picks_before item_picks (2 * size)
    + picks_before action_picks (5 * size + 5) + picks_before line_picks (10 * size)

abbrev pub PicksAreCounted : Type 0
PicksAreCounted = (size : ℕ) → 8 ≤ size → picks_of_game size ≡ 72 * size + 59

-- the first room of the game of 8, its first item and its first line
pub record StartsAsWorkedOut : Type 0 where
  pub room : exits 8 (at_rooms 8) ≡ pos 0 ∷ pos 8 ∷ pos 7 ∷ pos 4 ∷ pos 1 ∷ pos 6 ∷ []
  pub item : item_place 8 0 (at_items 8) ≡ 8
  pub line : typed_line 8 0 (at_lines 8) ≡ codes "down"

-- The text of a stopped play: eight lines.
use Rattle.std.specs.Prelude.{ℕ, ◌≤◌, List, [], ◌∷◌, ◌++◌, map, ℤ, pos, codes, IsTrue}
use Rattle.std.specs.List.{flat_map}
use Rattle.adv_io.specs.Text.{newline, space}
use Rattle.adv_text.specs.Writing.{number_text}
use Rattle.scott_types.specs.declared.states.State.{State}
use Rattle.scott_types.specs.declared.endings.Position.{Position}
use Rattle.scott_types.specs.declared.endings.Position.TheVariants.{Fresh, Draw, Line, Over}
use Rattle.scott_types.specs.Database.{Database}
use Rattle.scott_turn.specs.Positions.{is_automatic}
use Rattle.scott_types.specs.State.{Fits}
use Rattle.adv_position.specs.Numbers.{bit}
use Rattle.adv_position.specs.declared.saved.Saved.{Saved}
use Rattle.adv_position.specs.declared.saved.TheConstants.{TAKEN_LIMIT}

-- ---- the values

-- a play waits for a line, or for the draw of a head of verb 0
abbrev pub Waits : Database → Position → Type 0
Waits db Line = Unit
Waits db (Draw head) = IsTrue (is_automatic db head)
Waits db Fresh = ⊥
Waits db (Over ending) = ⊥

-- a play of the database can have stopped so
pub record IsSaved (db : Database) (saved : Saved) : Type 0 where
  pub fits : Fits db saved.state
  pub waits : Waits db saved.position
  pub taken : saved.taken ≤ TAKEN_LIMIT

-- ---- the text

-- a label, and a number after a space
abbrev pub labelled : List ℕ → ℤ → List ℕ
labelled label number = label ++ space ∷ number_text number

-- a label, a number and the line's end
abbrev pub number_line : List ℕ → ℤ → List ℕ
number_line label number = labelled label number ++ newline ∷ []

-- numbers, each after a space
abbrev pub spaced : List ℤ → List ℕ
spaced numbers = flat_map (labelled []) numbers

-- a label, numbers, and the line's end
abbrev pub numbers_line : List ℕ → List ℤ → List ℕ
numbers_line label numbers = label ++ (spaced numbers ++ newline ∷ [])

abbrev pub at_line : Position → List ℕ
at_line (Draw head) = number_line (codes "at draw") (pos head)
at_line _ = codes "at line\n"

abbrev pub room_line : State → List ℕ
room_line s =
    labelled (codes "room") (pos s.room) ++ (labelled (codes " saved") (pos s.saved)
    ++ (labelled (codes " light") s.light ++ (labelled (codes " counter") s.counter
    ++ (labelled (codes " redraw") (bit s.redraw) ++ newline ∷ []))))

-- the eight lines
abbrev pub lines : List (Saved → List ℕ)
lines =
    (λ saved. codes "position 1\n")
    ∷ (λ saved. at_line saved.position)
    ∷ (λ saved. number_line (codes "taken") (pos saved.taken))
    ∷ (λ saved. room_line saved.state)
    ∷ (λ saved. numbers_line (codes "rooms") (map pos saved.state.rooms))
    ∷ (λ saved. numbers_line (codes "counters") saved.state.counters)
    ∷ (λ saved. numbers_line (codes "flags") (map bit saved.state.flags))
    ∷ (λ saved. numbers_line (codes "places") (map pos saved.state.places.items))
    ∷ []

-- the text: the lines, one after the other
abbrev pub position_text : Saved → List ℕ
position_text saved = flat_map (λ line. line saved) lines

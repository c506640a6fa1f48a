-- Reading a position from left to right.
use Rattle.std.specs.Prelude.{ℕ, zero, suc, ◌-◌, ◌==◌, Bool, if◌then◌else◌, List, [], ◌∷◌, Option, Some, None, option_and_then, Result, Ok, Err, ℤ, pos, negsuc, codes, length}
use Rattle.adv_io.specs.Text.{newline, space}
use Rattle.adv_text.specs.Reading.{Input, input, Fault, number_at}
use Rattle.adv_text.specs.Writing.{number_text}
use Rattle.scott_types.specs.declared.states.State.{State}
use Rattle.scott_types.specs.declared.endings.Position.{Position}
use Rattle.scott_types.specs.declared.endings.Position.TheVariants.{Draw, Line}
use Rattle.scott_types.specs.Database.{Database}
use Rattle.adv_position.specs.declared.saved.Saved.{Saved}
use Rattle.adv_position.specs.declared.lines.RoomLine.{RoomLine}
use Rattle.adv_position.specs.declared.saved.TheConstants.{TAKEN_LIMIT}
use Rattle.adv_position.specs.Numbers.{amount, is_one, is_within}
use Rattle.scott_turn.specs.Positions.{is_automatic}

-- a value that was read and the bytes after it, or nothing
abbrev pub Read : Type 0 → Type 0
Read X = Option (X × List ℕ)

-- what is read after it
abbrev pub onto : {X Y : Type 0} → Read X → (X → List ℕ → Read Y) → Read Y
onto None next = None
onto (Some read) next = next read.0 read.1

-- the bytes after a text, where they begin with it
abbrev pub after_text : List ℕ → List ℕ → Option (List ℕ)
after_text [] bytes = Some bytes
after_text (t ∷ text) [] = None
after_text (t ∷ text) (b ∷ bytes) = if t == b then after_text text bytes else None

abbrev pub onto_text : {X : Type 0} → List ℕ → List ℕ → (List ℕ → Read X) → Read X
onto_text text bytes next = option_and_then next (after_text text bytes)

-- a value, and the line ends
abbrev pub ended : {X : Type 0} → X → List ℕ → Read X
ended x bytes = onto_text (newline ∷ []) bytes (λ rest. Some (x, rest))

-- ---- numbers

-- a number from the least to the most, in the one way in which it is written
abbrev pub exact : ℤ → ℤ → List ℕ → Result (ℤ × Input) Fault → Read ℤ
exact least most bytes (Err fault) = None
exact least most bytes (Ok read) =
    if is_within least most read.0
    then onto_text (number_text read.0) bytes (λ rest. Some (read.0, rest)) else None

-- the same after a space
abbrev pub number_in : ℤ → ℤ → List ℕ → Read ℤ
number_in least most bytes =
    onto_text (space ∷ []) bytes (λ digits. exact least most digits (number_at (input 0 digits)))

-- what a number stands for, after a label
unfoldable pub field_in : {X : Type 0} → (ℤ → X) → List ℕ → ℤ → ℤ → List ℕ → Read X
field_in of label least most bytes =
    onto_text label bytes (λ rest. onto (number_in least most rest) (λ z after. Some (of z, after)))

-- what n numbers stand for
abbrev pub fields_in : {X : Type 0} → (ℤ → X) → ℤ → ℤ → ℕ → List ℕ → Read (List X)
fields_in of least most zero bytes = Some ([], bytes)
fields_in of least most (suc n) bytes =
    onto (field_in of [] least most bytes) (λ x rest.
    onto (fields_in of least most n rest) (λ xs after. Some (x ∷ xs, after)))

-- ---- lines

abbrev pub heading_in : List ℕ → Read (Unit {0})
heading_in bytes = onto_text (codes "position 1\n") bytes (λ rest. Some (tt, rest))

-- a head of verb 0
abbrev pub head_in : Database → List ℕ → Read Position
head_in db bytes =
    onto (field_in amount (codes "at draw") (pos 0) (pos 65535) bytes) (λ head rest.
    if is_automatic db head then ended (Draw head) rest else None)

-- a line is waited for, or a draw
abbrev pub at_line_or : Read Position → Option (List ℕ) → Read Position
at_line_or head None = head
at_line_or head (Some rest) = Some (Line, rest)

abbrev pub at_in : Database → List ℕ → Read Position
at_in db bytes = at_line_or (head_in db bytes) (after_text (codes "at line\n") bytes)

abbrev pub taken_in : List ℕ → Read ℕ
taken_in bytes = onto (field_in amount (codes "taken") (pos 0) (pos TAKEN_LIMIT) bytes) ended

-- the number of the highest room
abbrev pub highest_room : Database → ℤ
highest_room db = pos (length db.rooms - 1)

abbrev pub room_line_in : Database → List ℕ → Read RoomLine
room_line_in db bytes =
    onto (field_in amount (codes "room") (pos 0) (highest_room db) bytes) (λ room r.
    onto (field_in amount (codes " saved") (pos 0) (highest_room db) r) (λ saved s.
    onto (field_in (λ z. z) (codes " light") (negsuc 0) db.header.light s) (λ light l.
    onto (field_in (λ z. z) (codes " counter") (negsuc 0) (pos 32767) l) (λ counter c.
    onto (field_in is_one (codes " redraw") (pos 0) (pos 1) c) (λ redraw rest.
    ended (record { room = room; saved = saved; light = light; counter = counter; redraw = redraw })
    rest)))))

-- a label, n numbers and the line's end
unfoldable pub numbers_in : {X : Type 0} → (ℤ → X) → List ℕ → ℤ → ℤ → ℕ → List ℕ → Read (List X)
numbers_in of label least most n bytes =
    onto_text label bytes (λ rest. onto (fields_in of least most n rest) ended)

abbrev pub rooms_in : Database → List ℕ → Read (List ℕ)
rooms_in db bytes = numbers_in amount (codes "rooms") (pos 0) (highest_room db) 16 bytes

abbrev pub counters_in : List ℕ → Read (List ℤ)
counters_in bytes = numbers_in (λ z. z) (codes "counters") (negsuc 0) (pos 32767) 16 bytes

abbrev pub flags_in : List ℕ → Read (List Bool)
flags_in bytes = numbers_in is_one (codes "flags") (pos 0) (pos 1) 32 bytes

abbrev pub places_in : Database → List ℕ → Read (List ℕ)
places_in db bytes = numbers_in amount (codes "places") (pos 0) (pos 255) (length db.items) bytes

-- ---- the whole

-- line k was read, or it is bad
abbrev pub onward : {X : Type 0} → ℕ → Read X → (X → List ℕ → Result Saved ℕ) → Result Saved ℕ
onward k None next = Err k
onward k (Some read) next = next read.0 read.1

-- the state that the lines from the fourth on say
abbrev pub state_of : RoomLine → List ℕ → List ℤ → List Bool → List ℕ → State
state_of now rooms counters flags places = record {
  room = now.room;
  saved = now.saved;
  rooms = rooms;
  counter = now.counter;
  counters = counters;
  flags = flags;
  light = now.light;
  places = record { items = places };
  redraw = now.redraw;
}

-- nothing may follow
abbrev pub at_end : List ℕ → Saved → Result Saved ℕ
at_end [] saved = Ok saved
at_end (b ∷ bytes) saved = Err 9

-- what the bytes say, or the number of the first bad line
unfoldable pub position_in : Database → List ℕ → Result Saved ℕ
position_in db bytes =
    onward 1 (heading_in bytes) (λ _ at.
    onward 2 (at_in db at) (λ position take.
    onward 3 (taken_in take) (λ taken room.
    onward 4 (room_line_in db room) (λ now backup.
    onward 5 (rooms_in db backup) (λ rooms count.
    onward 6 (counters_in count) (λ counters flag.
    onward 7 (flags_in flag) (λ flags place.
    onward 8 (places_in db place) (λ places rest.
    at_end rest (record {
      state = state_of now rooms counters flags places;
      position = position;
      taken = taken;
    })))))))))

-- A run: bytes of a text that are no whitespace, between whitespace or the text's ends.
use Rattle.std.specs.Prelude.{ℕ, ◌+◌, Bool, ◌&&◌, not, nat_le, List, [], ◌∷◌, Option, Some, None, IsTrue, if◌then◌else◌}
use Rattle.std.specs.List.{list_all, take_while}
use Rattle.std.specs.Char.{is_ascii_digit}
use Rattle.std.specs.Str.Parse.{digits_value_after}
use Rattle.adv_io.specs.Text.{is_whitespace}

-- a byte that is no whitespace is part of a run
abbrev pub is_solid : ℕ → Bool
is_solid byte = not (is_whitespace byte)

-- a run with the offset at which it begins
pub record Run : Type 0 where
  pub offset : ℕ
  pub bytes : List ℕ

-- the runs of what is left of a text, after a byte, from an offset on: a run begins at each solid
-- byte after a byte of whitespace, and goes on up to the next space
abbrev pub runs_after : ℕ → ℕ → List ℕ → List Run
runs_after before offset [] = []
runs_after before offset (byte ∷ rest) =
    if is_whitespace before && is_solid byte
    then record { offset = offset; bytes = take_while is_solid (byte ∷ rest) }
    ∷ runs_after byte (offset + 1) rest
    else runs_after byte (offset + 1) rest

-- the runs of a text, whose start counts as after a byte of whitespace
abbrev pub runs_of : List ℕ → List Run
runs_of text = runs_after 32 0 text

-- a draw is a number of 1..100
abbrev pub is_draw : ℕ → Bool
is_draw number = nat_le 1 number && nat_le number 100

-- each of these is a draw
abbrev pub AllDraws : List ℕ → Type 0
AllDraws numbers = IsTrue (list_all is_draw numbers)

-- the run that a text begins with; it is empty where a byte of whitespace stands first
abbrev pub first_run : List ℕ → List ℕ
first_run text = take_while is_solid text

-- the draw that a run writes, after the number of its digits so far
abbrev pub draw_after : ℕ → List ℕ → Option ℕ
draw_after number run =
    if list_all is_ascii_digit run && is_draw (digits_value_after 10 number run)
    then Some (digits_value_after 10 number run)
    else None

-- the draw that a run writes: its bytes are digits, and its number is one of 1..100
abbrev pub draw_of : List ℕ → Option ℕ
draw_of run = draw_after 0 run

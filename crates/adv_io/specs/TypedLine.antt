-- What a typed line keeps of the bytes that a player sent.
use Rattle.std.specs.Prelude.{ℕ, ◌≤◌, Bool, ◌&&◌, ◌||◌, ◌==◌, not, List, length, IsTrue, if◌then◌else◌}
use Rattle.std.specs.List.{list_all}
use Rattle.std.specs.Char.{is_ascii_graphic, is_ascii_uppercase, to_ascii_lowercase}
use Rattle.adv_io.specs.Text.{space}
use Rattle.adv_io.specs.declared.lines.TheConstants.{LINE_LIMIT}

-- a printable byte in lower case, and a space for any other
abbrev pub line_byte : ℕ → ℕ
line_byte byte = if is_ascii_graphic byte then to_ascii_lowercase byte else space

-- a space, or a printable byte that is no capital letter
abbrev pub is_line_byte : ℕ → Bool
is_line_byte byte = byte == space || (is_ascii_graphic byte && not (is_ascii_uppercase byte))

-- at most so many bytes, each of them such a byte
pub record IsTyped (line : List ℕ) : Type 0 where
  pub short : length line ≤ LINE_LIMIT
  pub lower : IsTrue (list_all is_line_byte line)

-- The text of the counts of a game's lines.
use Rattle.std.specs.Prelude.{ℕ, ◌+◌, ◌==◌, nat_lt, List, [], ◌∷◌, ◌++◌, length, filter, codes, if◌then◌else◌}
use Rattle.std.specs.Fmt.{decimal}
use Rattle.adv_io.specs.Text.{newline}

-- a line with its count, where that is above 0
abbrev pub line_text : ℕ → ℕ → List ℕ
line_text line count =
    if count == 0 then []
    else codes "line " ++ (decimal line ++ (codes ": " ++ (decimal count ++ newline ∷ [])))

-- the lines from one on, in order
abbrev pub lines_text : ℕ → List ℕ → List ℕ
lines_text line [] = []
lines_text line (count ∷ counts) = line_text line count ++ lines_text (line + 1) counts

-- how many counts are above 0
abbrev pub lines_run : List ℕ → ℕ
lines_run counts = length (filter (λ count. nat_lt 0 count) counts)

-- after an empty line each line that was tried, with its count, and how many there are
abbrev pub report_text : List ℕ → List ℕ
report_text counts =
    newline ∷ (lines_text 0 counts
    ++ (codes "lines run: " ++ (decimal (lines_run counts) ++ newline ∷ [])))

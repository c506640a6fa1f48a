-- The counts of the routines of lines.
use Rattle.std.specs.Prelude.{ℕ, zero, suc, if◌then◌else◌, List, [], ◌∷◌, ◌++◌, Option, Some, None}
use Rattle.adv_counts.specs.Counts.{count_of}
use Rattle.inform_names.specs.declared.meanings.Meaning.{Meaning}
use Rattle.inform_names.specs.Meanings.{Known}
use Rattle.inform_names.specs.Acceptance.{is_routine}
use Rattle.trans_specs.specs.Names.{line_name}
use Rattle.adv_coverage.specs.declared.reports.TheConstants.{LINE_LIMIT}

-- the count of the routine that a name means, by the counts of directives; 0 for what is no routine
abbrev pub routine_count : List ℕ → Option Meaning → ℕ
routine_count counts None = 0
routine_count counts (Some m) = if is_routine m.kind then count_of counts m.at else 0

-- the count of each of so many lines: that of the routine with its name
unfoldable pub counts_of_lines : Known → List ℕ → ℕ → List ℕ
counts_of_lines known counts zero = []
counts_of_lines known counts (suc k) =
    counts_of_lines known counts k ++ routine_count counts (known (line_name k)) ∷ []

-- of all lines that a game can have
abbrev pub line_counts : Known → List ℕ → List ℕ
line_counts known counts = counts_of_lines known counts LINE_LIMIT

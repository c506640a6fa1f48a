-- How often each action line was tried.
use Rattle.std.specs.Prelude.{◌≡◌, ℕ, List, length, replicate}
use Rattle.adv_counts.specs.Counts.{counted}
use Rattle.adv_io.specs.Steps.{Step, Traced, noted}
use Rattle.scott_types.specs.Database.{Database}
use Rattle.scott_rules.specs.Play.{PlayEnd}

-- no line was tried
abbrev pub untried : Database → List ℕ
untried db = replicate (length db.actions) 0

-- the counts of all lines after some steps: each line that is noted in them is counted
abbrev pub tallied : List Step → List ℕ → List ℕ
tallied steps counts = counted (noted steps) counts

-- the counts after a whole play are those after what is left of it from other counts
abbrev pub TalliesOn : Traced Step PlayEnd → List ℕ → Traced Step PlayEnd → List ℕ → Type 0
TalliesOn whole before rest now = tallied whole.events before ≡ tallied rest.events now

-- Runs that are made in pieces.
use Rattle.std.specs.Prelude.{ℕ, zero, suc, ◌≡◌, ◌+◌, List, [], ◌++◌}
use Rattle.adv_io.specs.Steps.{Step}
use Rattle.inform_meaning.specs.Worlds.{Program, Config}
use Rattle.inform_meaning.specs.Frames as f
use Rattle.inform_meaning.specs.Frames.{Frame, Outcome}
use Rattle.inform_meaning.specs.Runs.{Lacking, resume, stop_of, begun_of}
use Rattle.inform_entered.specs.Entered.{newly_entered}

-- the same after some events
abbrev pub after_past : List Step → Config → Config
after_past past c = record c { past = past ++ c.past }

abbrev pub run_after : List Step → Outcome × Config → Outcome × Config
run_after past r = (r.0, after_past past r.1)

-- where a run that goes on from these frames stands after so many steps
abbrev pub standing : Program → List Frame → Config → ℕ → Outcome × Config
standing p frames c n = resume p frames (record c { steps = n })

-- a further step is due, and all were used
abbrev pub IsSpent : Outcome × Config → Type 0
IsSpent r = stop_of r.0 ≡ Lacking f.Spent

-- ---- the next piece of a run

-- what a run left, with nothing that happened before
abbrev pub afresh : Config → Config
afresh c = record c { past = [] }

-- what goes on from where a run stopped, with so many steps
abbrev pub next_piece : Program → Outcome × Config → ℕ → Outcome × Config
next_piece p r n = standing p (begun_of r.0) (afresh r.1) n

-- A piece of a run and the next one, one after the other, are a whole run: it stops as the second
-- piece does, what happened in it is what happened in the pieces, and the steps that the pieces
-- left over are left.
pub record Joins (first second whole : Outcome × Config) : Type 0 where
  pub stop : stop_of whole.0 ≡ stop_of second.0
  pub begun : begun_of whole.0 ≡ begun_of second.0
  pub config : whole.1 ≡ record second.1 {
    steps = first.1.steps + second.1.steps;
    past = first.1.past ++ second.1.past;
  }

-- ---- entered routines

-- the directives of the routines that it enters in so many steps, in order
abbrev pub entered_in : Program → List Frame → Config → ℕ → List ℕ
entered_in p frames c zero = []
entered_in p frames c (suc n) =
    entered_in p frames c n ++ newly_entered (standing p frames c n) (standing p frames c (suc n))

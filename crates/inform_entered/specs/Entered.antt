-- Which routines a run enters: those that are open after a step, where more are open than before.
use Rattle.std.specs.Prelude.{ℕ, zero, suc, ◌+◌, nat_lt, List, [], ◌∷◌, ◌++◌, if◌then◌else◌}
use Rattle.inform_tree.specs.declared.widths.Width.{Width}
use Rattle.inform_tree.specs.Programs.{DirectiveTree}
use Rattle.inform_meaning.specs.Worlds.{Config}
use Rattle.inform_meaning.specs.Frames.{Frame, Calling, Over, Outcome}
use Rattle.inform_meaning.specs.Runs.{begun_of}
use Rattle.inform_meaning.specs.Programs.{no_notes, run_of}

-- ---- open routines

-- a call that has begun is open
abbrev pub calls_in : Frame → ℕ
calls_in (Calling scope) = 1
calls_in f = 0

abbrev pub calls_open : List Frame → ℕ
calls_open [] = 0
calls_open (f ∷ fs) = calls_in f + calls_open fs

-- `Main` and each open call; none where the run is over
abbrev pub open_routines : List Frame → ℕ
open_routines [] = 0
open_routines (Over halt ∷ fs) = 0
open_routines (f ∷ fs) = calls_open (f ∷ fs) + 1

-- those that are open where a run stopped
abbrev pub still_open : Outcome × Config → ℕ
still_open r = open_routines (begun_of r.0)

-- ---- entered routines

-- the directive of the innermost routine, where more are open now than before
abbrev pub newly_entered : Outcome × Config → Outcome × Config → List ℕ
newly_entered before now =
    if nat_lt (still_open before) (still_open now) then now.1.world.scope.directive ∷ [] else []

-- The directives of the routines that a run enters in so many steps, in order: after each step the
-- innermost routine, where more are open than before the step. A routine whose body is empty ends
-- in the step that calls it, and is none of them.
abbrev pub entered : Width → List DirectiveTree → ℕ → List (List ℕ) → List ℕ → List ℕ
entered width ds zero lines draws = []
entered width ds (suc n) lines draws =
    entered width ds n lines draws
    ++ newly_entered (run_of width ds no_notes n lines draws)
    (run_of width ds no_notes (suc n) lines draws)

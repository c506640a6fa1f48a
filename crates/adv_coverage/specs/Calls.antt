-- How often a run enters each directive.
use Rattle.std.specs.Prelude.{ℕ, ◌≡◌, nat_lt, List, [], ◌∷◌, if◌then◌else◌}
use Rattle.inform_names.specs.declared.accepted.Accepted.{Accepted}
use Rattle.inform_names.specs.Acceptance.{main}
use Rattle.inform_names.specs.Views.{directives_of}
use Rattle.inform_meaning.specs.Programs.{routine_named, body_of, opening_world}
use Rattle.inform_meaning.specs.Runs.{main_begun}
use Rattle.inform_worlds.specs.Worlds.{program_of}
use Rattle.inform_entered.specs.Entered.{open_routines, entered}
use Rattle.inform_steps.specs.Pieces.{entered_in}
use Rattle.inform_run.specs.declared.runners.Runner.{Runner}
use Rattle.inform_run.specs.Runners.{program_run, begun_in, world_in, left_to}

-- the directives of the routines that a runner enters as it goes on for so many steps, in order
abbrev pub entered_by : Runner → ℕ → List (List ℕ) → List ℕ → List ℕ
entered_by r steps lines draws =
    entered_in (program_run r) (begun_in r) (left_to r steps lines draws) steps

-- the directive of a runner's innermost routine, where more are open than before
abbrev pub entered_since : ℕ → Runner → List ℕ
entered_since before r =
    if nat_lt before (open_routines (begun_in r)) then (world_in r).scope.directive ∷ [] else []

-- ---- from the beginning

-- a runner that was just opened on a program
pub record IsAtOpening (a : Accepted) (r : Runner) : Type 0 where
  pub program : program_run r ≡ program_of a
  pub begun : begun_in r ≡ main_begun (body_of (routine_named a.width (directives_of a) main))
  pub world : world_in r ≡ opening_world a.width (directives_of a)
      (routine_named a.width (directives_of a) main)

-- What a runner enters that stands at the opening of a program is what the program enters.
abbrev pub EnteredFromOpening : Type 0
EnteredFromOpening = (a : Accepted) (r : Runner) (steps : ℕ) (lines : List (List ℕ))
    (draws : List ℕ) → IsAtOpening a r
    → entered_by r steps lines draws ≡ entered a.width (directives_of a) steps lines draws

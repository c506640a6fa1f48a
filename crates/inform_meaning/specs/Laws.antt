-- The laws of runs.
use Rattle.std.specs.Prelude.{ℕ, ◌≡◌, ◌+◌, ◌≤◌, List, [], ◌∷◌, ◌++◌}
use Rattle.adv_io.specs.Steps.{Step, Spends}
use Rattle.inform_meaning.specs.Worlds.{Program, Config}
use Rattle.inform_meaning.specs.Frames.{Halt, Frame, Over, Outcome, Halts, Waits}
use Rattle.inform_meaning.specs.Runs.{resume}

-- more steps, and more lines and draws after those that are left
abbrev pub with_more : ℕ → List (List ℕ) → List ℕ → Config → Config
with_more steps lines draws c =
    record c { steps = c.steps + steps; lines = c.lines ++ lines; draws = c.draws ++ draws }

-- a run that waited goes on with more from where it stopped; one that is over stays as it is
abbrev pub going_on : Program → ℕ → List (List ℕ) → List ℕ → Outcome × Config → Outcome × Config
going_on p steps lines draws (Waits lack frames, c) =
    resume p frames (with_more steps lines draws c)
going_on p steps lines draws (e, c) = (e, with_more steps lines draws c)

-- A run with more steps, lines and draws is the run with fewer that goes on with them from where it
-- stopped.
abbrev pub RunsSplit : Type 0
RunsSplit = (p : Program) (frames : List Frame) (steps : ℕ) (lines : List (List ℕ)) (draws : List ℕ)
    (c : Config)
    → resume p frames (with_more steps lines draws c) ≡ going_on p steps lines draws
    (resume p frames c)

-- what a run does: it adds to the past, uses steps, and takes lines and draws from the front
pub record Goes (old new : Config) : Type 0 where
  pub events : List Step
  pub past : new.past ≡ old.past ++ events
  pub steps : new.steps ≤ old.steps
  pub spends : Spends old.lines old.draws events new.lines new.draws

-- What a run takes and draws, followed by what is left, is what there was; and what was done stays.
abbrev pub RunsGo : Type 0
RunsGo = (p : Program) (frames : List Frame) (c : Config) → Goes c (resume p frames c).1

-- A run that is over stays over, and nothing happens.
abbrev pub StopStays : Type 0
StopStays = (p : Program) (halt : Halt) (c : Config) → resume p (Over halt ∷ []) c ≡ (Halts halt, c)

-- More steps, lines and draws change nothing that was done.
abbrev pub MoreAddsOnly : Type 0
MoreAddsOnly = (p : Program) (frames : List Frame) (steps : ℕ) (lines : List (List ℕ))
    (draws : List ℕ) (c : Config)
    → (events : List Step) × ((resume p frames (with_more steps lines draws c)).1.past ≡
    (resume p frames c).1.past ++ events)

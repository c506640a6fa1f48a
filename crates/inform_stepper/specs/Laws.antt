-- The laws of pauses and of pieces of a runner's run.
use Rattle.std.specs.Prelude.{ℕ, suc, ◌≡◌, ◌+◌, ◌<◌, ◌≤◌, List, [], ◌++◌, Some, Result, Ok}
use Rattle.adv_draws.specs.Supply.{Supply}
use Rattle.adv_io.specs.History.{says}
use Rattle.adv_io.specs.Steps.{shown_of}
use Rattle.adv_io.specs.Console.{ConsoleView}
use Rattle.adv_io.specs.declared.faults.ConsoleFault.{ConsoleFault}
use Rattle.inform_meaning.specs.Worlds.{Program, Config}
use Rattle.inform_meaning.specs.Frames.{Frame}
use Rattle.inform_steps.specs.Pieces.{IsSpent, standing, next_piece}
use Rattle.inform_run.specs.declared.runners.Runner.{Runner}
use Rattle.inform_run.specs.declared.stops.Stop.{Stop}
use Rattle.inform_run.specs.Runners.{program_run, resumed, Runs}
use Rattle.inform_stepper.specs.declared.pauses.Until.{Until}
use Rattle.inform_stepper.specs.Shown.{step_shown, pause_text}

-- A run of a runner, and after it a run of what it left, are one run with the steps of both.
abbrev pub RunsJoin : Type 0
RunsJoin = (old mid new : ConsoleView) (stop : Stop) (result : Result Stop ConsoleFault)
    (first more : ℕ) (lines rest : List (List ℕ)) (r0 r1 r2 : Runner) (d0 d1 d2 : Supply)
    → program_run r1 ≡ program_run r0
    → mid.left ≡ Some rest
    → Runs old mid (Ok stop) first (resumed r0 first lines d0.left) r0 r1 d0 d1
    → Runs mid new result more (resumed r1 more rest d1.left) r1 r2 d1 d2
    → Runs old new result (first + more) (resumed r0 (first + more) lines d0.left) r0 r2 d0 d2

-- The events of the steps, one after the other, are what is shown of the run.
abbrev pub StepsAreShown : Type 0
StepsAreShown = (p : Program) (frames : List Frame) (c : Config) (n : ℕ)
    → step_shown (λ k. []) (standing p frames c) n ≡ shown_of (standing p frames c n).1.past

-- From a step on to the next one with a text, what is shown is what the piece of the run shows, and
-- then the text.
abbrev pub PausesAreShown : Type 0
PausesAreShown = (text : ℕ → List ℕ) (p : Program) (frames : List Frame) (c : Config) (n more : ℕ)
    → ((k : ℕ) → n < k → k ≤ n + more → text k ≡ [])
    → step_shown text (standing p frames c) (n + suc more)
    ≡ (step_shown text (standing p frames c) n
    ++ shown_of (next_piece p (standing p frames c n) (suc more)).1.past)
    ++ says (text (n + suc more))

-- Where a run stopped for anything but steps, more steps show nothing, and no line.
abbrev pub StoppedShowsNoMore : Type 0
StoppedShowsNoMore = (until : ℕ → Until) (names : List (List ℕ)) (used : ℕ) (p : Program)
    (frames : List Frame) (c : Config) (n more : ℕ)
    → (IsSpent (standing p frames c n) → ⊥)
    → step_shown (pause_text until names used (standing p frames c)) (standing p frames c)
    (n + more)
    ≡ step_shown (pause_text until names used (standing p frames c)) (standing p frames c) n

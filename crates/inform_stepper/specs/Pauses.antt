-- Where a run that goes on step by step pauses.
use Rattle.std.specs.Prelude.{ℕ, zero, suc, ◌+◌, ◌==◌, List, ◌∷◌, Option, Some, None, if◌then◌else◌}
use Rattle.inform_meaning.specs.Worlds.{Config}
use Rattle.inform_meaning.specs.Frames as f
use Rattle.inform_meaning.specs.Frames.{Outcome}
use Rattle.inform_meaning.specs.Runs as m
use Rattle.inform_meaning.specs.Runs.{stop_of}
use Rattle.inform_meaning.specs.Tables.{first_of_two}
use Rattle.inform_entered.specs.Entered.{newly_entered}
use Rattle.inform_run.specs.declared.stops.Stop.{Stop}
use Rattle.inform_run.specs.declared.stops.Stop.TheVariants as s
use Rattle.inform_stepper.specs.declared.pauses.Until.{Until}
use Rattle.inform_stepper.specs.declared.pauses.Until.TheVariants as u
use Rattle.inform_stepper.specs.declared.pauses.Paused.{Paused}
use Rattle.inform_stepper.specs.declared.pauses.Paused.TheVariants as p

-- ---- a stop for anything but steps

-- why a run stopped, as a runner answers it
abbrev pub stop_answer : m.Stop → Stop
stop_answer (m.Halted f.Quits) = s.Quit
stop_answer (m.Halted (f.Trapped kind directive)) = s.Trap kind directive
stop_answer (m.Lacking f.NeedsLine) = s.NeedsLine
stop_answer (m.Lacking f.NeedsDraw) = s.NeedsDraw
stop_answer (m.Lacking f.Spent) = s.Spent

abbrev pub pause_of_stop : m.Stop → Option Paused
pause_of_stop (m.Lacking f.Spent) = None
pause_of_stop stop = Some (p.Stopped (stop_answer stop))

abbrev pub stopped : Outcome × Config → Option Paused
stopped r = pause_of_stop (stop_of r.0)

-- ---- what is waited for

-- a step entered these routines, of which there is one at most, and so many steps were used in all
abbrev pub met : Until → List ℕ → ℕ → Option Paused
met u.Any (at ∷ others) used = Some (p.Entered at)
met (u.Routine wanted) (at ∷ others) used = if at == wanted then Some (p.Entered at) else None
met (u.Step n) entered used = if used == n then Some p.AtStep else None
met until entered used = None

-- ---- pauses

-- where a run stands after so many steps
abbrev pub Run : Type 0
Run = ℕ → Outcome × Config

-- after a step, before which the run stood there, and after which it stands here
abbrev pub pause_after : Until → ℕ → Outcome × Config → Outcome × Config → Option Paused
pause_after until used before now =
    first_of_two (stopped now) (met until (newly_entered before now) used)

-- after so many steps, where some were used before the run
abbrev pub pause_here : Until → ℕ → Run → ℕ → Option Paused
pause_here until used run zero = stopped (run zero)
pause_here until used run (suc n) = pause_after until (used + suc n) (run n) (run (suc n))

-- the same where the run has only so many steps: at the last of them it pauses in any case
abbrev pub pause_at : Until → ℕ → ℕ → Run → ℕ → Option Paused
pause_at until used steps run n = first_of_two (pause_here until used run n)
    (if n == steps then Some (p.Stopped s.Spent) else None)

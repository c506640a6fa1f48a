-- What is shown of a run that goes on step by step, with a line after each step at which it pauses.
use Rattle.std.specs.Prelude.{ℕ, zero, suc, pos, ◌+◌, List, [], ◌∷◌, ◌++◌, drop, length, Option, Some, codes, unwrap_or}
use Rattle.std.specs.List.{flat_map}
use Rattle.std.specs.Fmt.{decimal, signed_decimal}
use Rattle.adv_io.specs.declared.events.Event.{Event}
use Rattle.adv_io.specs.History.{says}
use Rattle.adv_io.specs.Steps.{Step, shown_of}
use Rattle.inform_meaning.specs.Worlds.{World}
use Rattle.inform_stepper.specs.declared.pauses.Until.{Until}
use Rattle.inform_stepper.specs.declared.pauses.Paused.{Paused}
use Rattle.inform_stepper.specs.declared.pauses.Paused.TheVariants as p
use Rattle.inform_stepper.specs.Pauses.{Run, pause_after}

-- what happens in the step after so many
abbrev pub events_after : Run → ℕ → List Step
events_after run n = drop (length (run n).1.past) (run (suc n)).1.past

-- shown of so many steps, where after the events of each step its text stands
abbrev pub step_shown : (ℕ → List ℕ) → Run → ℕ → List Event
step_shown text run zero = shown_of (run zero).1.past
step_shown text run (suc n) =
    step_shown text run n ++ shown_of (events_after run n) ++ says (text (suc n))

-- ---- the lines of pauses

-- a blank, the name of a global, and its value
abbrev pub global_text : World → List ℕ → List ℕ
global_text w name =
    codes " " ++ name ++ codes "=" ++ signed_decimal (unwrap_or (w.globals name) (pos 0))

-- so many steps were used, and these globals have their values
abbrev pub pause_line : List (List ℕ) → ℕ → World → List ℕ
pause_line names used w = codes "[step " ++ decimal used ++ codes ":"
    ++ flat_map (global_text w) names ++ codes "]" ++ 10 ∷ []

-- a line where the run pauses and doesn't stop
abbrev pub line_at : Option Paused → List ℕ → List ℕ
line_at (Some (p.Entered at)) line = line
line_at (Some p.AtStep) line = line
line_at other line = []

-- the line after each step, where at the step with which n are used in all `until n` is waited for
abbrev pub pause_text : (ℕ → Until) → List (List ℕ) → ℕ → Run → ℕ → List ℕ
pause_text until names used run zero = []
pause_text until names used run (suc n) =
    line_at (pause_after (until (used + suc n)) (used + suc n) (run n) (run (suc n)))
    (pause_line names (used + suc n) (run (suc n)).1.world)

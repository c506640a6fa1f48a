-- What a run shows that says a line at each pause.
use Rattle.std.specs.Prelude.{ℕ, ℤ, ⊤, pos, ◌≡◌, ◌≤◌, ◌+◌, ◌-◌, ◌%◌, ◌^◌, List, [], ◌++◌, Option, Some, None, Result, OnOk, OnErr, IfOk, codes, unwrap_or}
use Rattle.std.specs.List.{filter_map}
use Rattle.std.specs.Fmt.{decimal, signed_decimal}
use Rattle.adv_draws.specs.Supply.{Supply}
use Rattle.adv_io.specs.declared.events.Event.{Event}
use Rattle.adv_io.specs.declared.faults.ConsoleFault.{ConsoleFault}
use Rattle.adv_io.specs.History.{grown, GrewByPrefix}
use Rattle.adv_io.specs.Console.{ConsoleView}
use Rattle.inform_tree.specs.Programs as t
use Rattle.inform_tree.specs.Programs.{DirectiveTree}
use Rattle.inform_names.specs.declared.accepted.Accepted.{Accepted}
use Rattle.inform_names.specs.Views.{directives_of}
use Rattle.inform_meaning.specs.Worlds.{World, Config}
use Rattle.inform_meaning.specs.Frames.{Outcome}
use Rattle.inform_run.specs.declared.runners.Runner.{Runner}
use Rattle.inform_run.specs.declared.stops.Stop.{Stop}
use Rattle.inform_run.specs.Runners.{resumed, Leaves}
use Rattle.inform_stepper.specs.declared.pauses.Until.{Until}
use Rattle.inform_stepper.specs.declared.pauses.Until.TheVariants as u
use Rattle.inform_stepper.specs.declared.repeats.Pausing.{Pausing}
use Rattle.inform_stepper.specs.declared.repeats.Pausing.TheVariants as r
use Rattle.inform_stepper.specs.Shown.{step_shown, pause_text}

-- ---- at what it pauses

-- the number of steps from one pause to the next is one of 1 to 10^18
abbrev pub InRange : Pausing → Type 0
InRange (r.At at) = ⊤
InRange (r.Every number) = (1 ≤ number) × (number ≤ 10 ^ 18)

-- what is waited for at the step with which so many are used: the routine, or the last multiple of
-- the number up to there
abbrev pub waited : Pausing → ℕ → Until
waited (r.At at) used = u.Routine at
waited (r.Every number) used = u.Step (used - used % number)

-- what comes next after so many: the routine, or the next multiple of the number
abbrev pub awaited : Pausing → ℕ → Until
awaited (r.At at) used = u.Routine at
awaited (r.Every number) used = u.Step (used + (number - used % number))

-- ---- the lines

abbrev pub global_name : DirectiveTree → Option (List ℕ)
global_name (t.Global name value) = Some name
global_name other = None

-- the names of the globals, in order
abbrev pub globals_of : List DirectiveTree → List (List ℕ)
globals_of ds = filter_map global_name ds

-- a name and a value
abbrev pub value_text : List ℕ → ℤ → List ℕ
value_text name value = codes " " ++ name ++ codes "=" ++ signed_decimal value

-- what a directive adds to a line
abbrev pub directive_text : World → DirectiveTree → List ℕ
directive_text w (t.Global name value) = value_text name (unwrap_or (w.globals name) (pos 0))
directive_text w other = []

-- so many steps were used
abbrev pub heading : ℕ → List ℕ
heading used = codes "[step " ++ decimal used ++ codes ":"

-- ---- the run

-- what is shown of so many steps of a runner on a program: the run, and a line after each step at
-- which it pauses
abbrev pub shown_with_pauses : Accepted → Pausing → Runner → ℕ → List (List ℕ) → List ℕ → List Event
shown_with_pauses a pausing r steps lines draws =
    step_shown (pause_text (waited pausing) (globals_of (directives_of a)) r.used
    (λ n. resumed r n lines draws)) (λ n. resumed r n lines draws) steps

-- A run on a console whose lines are known: it shows this and leaves what the program leaves, and a
-- failure shows a prefix of that.
pub record RunsShowing (old_console new_console : ConsoleView) (result : Result Stop ConsoleFault)
    (all : List Event) (steps : ℕ) (t : Outcome × Config) (old new : Runner)
    (before now : Supply) : Type 0 where
  pub shows : OnOk result (new_console.history ≡ grown old_console.history all)
  pub part : OnErr result (GrewByPrefix old_console.history new_console.history all)
  pub lines : OnOk result (new_console.left ≡ Some t.1.lines)
  pub leaves : IfOk result (λ stop. Leaves t steps old new before now stop)

-- What a stepper does up to its next pause.
use Rattle.std.specs.Prelude.{ℕ, ◌≡◌, ◌<◌, ◌≤◌, ◌+◌, List, Option, Some, None, Result, Ok, Err, OnOk, IfOk}
use Rattle.adv_draws.specs.Supply.{Supply}
use Rattle.adv_io.specs.Console.{ConsoleView}
use Rattle.adv_io.specs.declared.faults.ConsoleFault.{ConsoleFault}
use Rattle.inform_run.specs.declared.runners.Runner.{Runner}
use Rattle.inform_run.specs.declared.stops.Stop.{Stop}
use Rattle.inform_run.specs.declared.stops.Stop.TheVariants as s
use Rattle.inform_run.specs.Runners.{resumed, Runs}
use Rattle.inform_stepper.specs.declared.pauses.Until.{Until}
use Rattle.inform_stepper.specs.declared.pauses.Paused.{Paused}
use Rattle.inform_stepper.specs.declared.pauses.Paused.TheVariants as p
use Rattle.inform_stepper.specs.Pauses.{pause_at}

-- the first of these pauses is this one, after so many steps
pub record PausesFirst (pauses : ℕ → Option Paused) (count : ℕ) (paused : Paused) : Type 0 where
  pub here : pauses count ≡ Some paused
  pub before : (n : ℕ) → n < count → pauses n ≡ None

-- why the run stopped of which this is the pause: but for a stop its steps were used
abbrev pub stop_in : Paused → Stop
stop_in (p.Stopped stop) = stop
stop_in other = s.Spent

abbrev pub as_stop : Result Paused ConsoleFault → Result Stop ConsoleFault
as_stop (Ok paused) = Ok (stop_in paused)
as_stop (Err fault) = Err fault

-- A stepper on a console whose lines are known: it makes the run up to the first pause and answers
-- it; with a fault it makes a part of that run.
pub record Goes (old_console new_console : ConsoleView) (result : Result Paused ConsoleFault)
    (until : Until) (steps : ℕ) (lines : List (List ℕ)) (old new : Runner) (before now : Supply)
    : Type 0 where
  pub count : ℕ
  pub paused : Paused
  pub first : PausesFirst
      (pause_at until old.used steps (λ n. resumed old n lines before.left)) count paused
  pub few : count ≤ steps
  pub answer : IfOk result (λ answer. answer ≡ paused)
  pub used : OnOk result (new.used ≡ old.used + count)
  pub runs : Runs old_console new_console (as_stop result) count
      (resumed old count lines before.left) old new before now

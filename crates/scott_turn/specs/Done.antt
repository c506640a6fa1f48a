-- What a call promises that does a part of a play, by the steps of the rules and their outcome.
use Rattle.std.specs.Prelude.{◌≡◌, ℕ, List, Result, OnOk, IfOk}
use Rattle.adv_io.specs.declared.faults.ConsoleFault.{ConsoleFault}
use Rattle.adv_io.specs.Console.{ConsoleView, Speaks}
use Rattle.adv_io.specs.Steps.{Step, Traced, shown_of}
use Rattle.scott_turn.specs.Tried.{tallied}

-- a call that tries no action line: the console hears what the steps say, and unless it fails their
-- outcome is that of the answer
pub record Shows {T V : Type 0} (old new : ConsoleView) (result : Result T ConsoleFault)
    (t : Traced Step V) (outcome : T → V) : Type 0 where
  pub spoken : Speaks old new result (shown_of t.events)
  pub left : IfOk result (λ answer. t.value ≡ outcome answer)

-- a call that tries action lines: each line that is noted in the steps is counted too
pub record Does {T V : Type 0} (old new : ConsoleView) (result : Result T ConsoleFault)
    (t : Traced Step V) (outcome : T → V) (before now : List ℕ) : Type 0 where
  pub spoken : Speaks old new result (shown_of t.events)
  pub tried : OnOk result (now ≡ tallied t.events before)
  pub left : IfOk result (λ answer. t.value ≡ outcome answer)

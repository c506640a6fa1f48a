-- The console of the process, as a clause sees it.
use Rattle.std.specs.Prelude.{ℕ, ◌+◌, ◌-◌, ◌^◌, List, None, length, Some, Result, Ok, Err}
use Rattle.adv_io.specs.Faults.{raised}
use Rattle.adv_io.specs.Console.{ConsoleView}
use Rattle.adv_io.specs.declared.faults.ConsoleFault.{ConsoleFault}
use Rattle.adv_io.specs.declared.consoles.Taken.{Taken}
use Rattle.adv_io.specs.declared.consoles.Taken.TheVariants.{Got, End}

-- how many lines were taken, and the count of faults
pub record Terminal : Type 0 where
  pub taken : ℕ
  pub faults : ℕ

-- how many more lines can be counted
abbrev pub takes_left : Terminal → ℕ
takes_left terminal = 2 ^ 64 - 1 - terminal.taken

-- what a clause sees of it as of every console: neither the history nor the lines that are left
abbrev pub terminal_seen : Terminal → ConsoleView
terminal_seen t = record { history = None; left = None; bound = takes_left t; faults = t.faults }

-- what it sees of a console that gives the lines of a list and fails at no call
abbrev pub script_seen : List (List ℕ) → ConsoleView
script_seen lines = record { history = None; left = Some lines; bound = length lines; faults = 0 }

-- a say that fails raises the count
abbrev pub after_saying : {T : Type 0} → Result T ConsoleFault → Terminal → Terminal
after_saying (Ok done) terminal = terminal
after_saying (Err fault) terminal = record terminal { faults = raised terminal.faults }

-- so does a take that fails, and a line that was got is counted
abbrev pub after_taking : Result Taken ConsoleFault → Terminal → Terminal
after_taking (Ok Got) terminal = record terminal { taken = terminal.taken + 1 }
after_taking (Ok End) terminal = terminal
after_taking (Err fault) terminal = record terminal { faults = raised terminal.faults }

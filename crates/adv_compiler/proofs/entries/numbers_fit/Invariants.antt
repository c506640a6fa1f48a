use Rattle.std.proofs.Common.{take}
use Rattle.std.specs.Prelude.{IsTrue}
use Rattle.std.specs.List.{list_all}
use Rattle.scott_types.specs.Limits.{is_number}
use Rattle.adv_compiler.proofs.entries.numbers_fit.Given as goal

-- the numbers so far fit
abbrev pub invariant-loop-number : goal.invariant-loop-number
invariant-loop-number l = IsTrue (list_all is_number (take l.number-index l.numbers))

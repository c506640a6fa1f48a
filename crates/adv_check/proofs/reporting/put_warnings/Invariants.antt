use Rattle.std.proofs.Common.{◌≡◌, ◌++◌, take}
use Rattle.std.specs.List.{flat_map}
use Rattle.adv_check.specs.Report.{warning_text}
use Rattle.adv_check.proofs.reporting.put_warnings.Given as goal

-- the lines so far are those of the warnings so far
abbrev pub invariant-loop-warning : goal.invariant-loop-warning
invariant-loop-warning l = l.out.items ≡ l.fn.out.items ++ flat_map warning_text (take l.warning-index l.found)

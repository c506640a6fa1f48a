use Rattle.std.proofs.Common.{◌≡◌, length, map, take}
use Rattle.adv_check.specs.Faults.{exit_fault}
use Rattle.adv_check.proofs.entries.exit_faults.Given as goal

-- the faults so far are those of the exits so far
abbrev pub invariant-loop-exit : goal.invariant-loop-exit
invariant-loop-exit l = record {
  faults : l.faults.items ≡ map (exit_fault l.db) (take l.exit-index l.exits);
  count : length l.faults.items ≡ l.exit-index;
}

use Rattle.std.proofs.Common.{◌≡◌, ◌++◌, take}
use Rattle.adv_check.specs.Sites.{part_sites, warnings_of}
use Rattle.adv_check.proofs.adding.add_part.Given as goal

-- the warnings so far are those of the places so far
abbrev pub invariant-loop-i : goal.invariant-loop-i
invariant-loop-i l = l.found.items ≡ l.fn.found.items ++ warnings_of (part_sites l.part l.index (take l.i l.faults))

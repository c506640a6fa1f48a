use Rattle.std.proofs.Common.{◌≡◌, ◌≤◌, length, take}
use Rattle.adv_decompiler.specs.Written.{without_zeros}
use Rattle.adv_decompiler.proofs.written.without_zeros.Given as goal

abbrev pub invariant-loop-end : goal.invariant-loop-end
invariant-loop-end l = (l.end ≤ length l.numbers) × (without_zeros (take l.end l.numbers) ≡ without_zeros l.numbers)

abbrev pub decreases-loop-end : goal.decreases-loop-end
decreases-loop-end l = l.end

use Rattle.std.proofs.Common.{◌≡◌, ◌≤◌, length, drop}
use Rattle.adv_io.proofs.reading.fill_part.Given as goal

abbrev pub invariant-loop : goal.invariant-loop
invariant-loop g l =
    (l.count ≤ length l.out) × (drop l.count l.out ≡ drop l.count l.initial.out)

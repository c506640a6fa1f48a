use Rattle.std.proofs.Common.{◌≡◌, [], replicate}
use Rattle.adv_gen.proofs.games.comments.Given as goal

abbrev pub invariant-loop : goal.invariant-loop
invariant-loop l = l.comments.items ≡ replicate l.counter []

use Rattle.std.proofs.Common.{◌≡◌}
use Rattle.adv_gen.specs.Picks.{after, picks_before, picked}
use Rattle.adv_gen.proofs.parts.each.Given as goal

-- the parts so far, and the picks after theirs
abbrev pub invariant-loop-number : goal.invariant-loop-number
invariant-loop-number g l = record {
  made : l.parts.items ≡ picked g.T.Part.taken (g.T.Part.part l.size) l.number l.fn.picks;
  next : l.picks ≡ after (picks_before g.T.Part.taken l.number) l.fn.picks;
}

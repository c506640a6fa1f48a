use Rattle.std.proofs.Common.{◌≡◌, ◌-◌}
use Rattle.source_reader.specs.Plan.{run}
use Rattle.source_reader.specs.Lists.{up_to, many, most}
use Rattle.source_reader.proofs.Loops.{with_prefix}
use Rattle.source_reader.proofs.lists.entries.Given as goal

-- the entries so far and those to come are the whole list
abbrev pub invariant-loop-k : goal.invariant-loop-k
invariant-loop-k g l =
    with_prefix l.entries.items (run (up_to g.P.Piece.plan (most - l._k)) l.scan) ≡ run (many g.P.Piece.plan) l.fn.scan

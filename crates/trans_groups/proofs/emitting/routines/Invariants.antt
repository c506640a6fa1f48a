use Rattle.std.proofs.Common.{◌≡◌, drop, map, reverse}
use Rattle.inform_tree.specs.Programs.{directive_of}
use Rattle.trans_groups.specs.Directives.{tried_from, heads_from}
use Rattle.trans_groups.proofs.emitting.routines.Given as goal

-- the heads from this line on have their routines, and the lines up to the next head wait, both with
-- the last one first
abbrev pub invariant-loop-line : goal.invariant-loop-line
invariant-loop-line l =
    (map directive_of (reverse l.all.items) ≡ heads_from l.line (drop l.line l.actions))
    × (reverse l.tail.items ≡ tried_from l.line (drop l.line l.actions))

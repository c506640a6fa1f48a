use Rattle.std.proofs.Common.{◌≡◌, length}
use Rattle.scott_tool.specs.Cover.{first_counts}
use Rattle.scott_tool.proofs.commands.cover.counts_of.Given as goal

-- so many lines are counted
abbrev pub invariant-loop-line : goal.invariant-loop-line
invariant-loop-line l =
    (l.counts.items ≡ first_counts l.line l.session.tried) × (length l.counts.items ≡ l.line)

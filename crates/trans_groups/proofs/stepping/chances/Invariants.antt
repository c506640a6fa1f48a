use Rattle.std.proofs.Common.{◌≡◌, drop, map, reverse}
use Rattle.inform_tree.specs.Statements.{statement_of}
use Rattle.scott_rules.specs.Groups.{groups_of}
use Rattle.trans_groups.specs.Automatic.{chances}
use Rattle.trans_groups.proofs.stepping.chances.Given as goal

-- the groups from this line on have their chances, the last one first
abbrev pub invariant-loop-line : goal.invariant-loop-line
invariant-loop-line l =
    map statement_of (reverse l.all.items)
    ≡ chances (groups_of l.line (drop l.line l.actions))

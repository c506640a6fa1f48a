use Rattle.std.proofs.Common.{◌≡◌, drop, map, reverse}
use Rattle.inform_tree.specs.Programs.{directive_of}
use Rattle.trans_actions.specs.Directives.{lines_from}
use Rattle.trans_actions.proofs.emitting.lines.Given as goal

-- the lines from this one on have their routines, the last one first
abbrev pub invariant-loop-number : goal.invariant-loop-number
invariant-loop-number l = map directive_of (reverse l.all.items)
    ≡ lines_from l.db l.number (drop l.number l.actions)

use Rattle.std.proofs.Common.{nat_eq}
use Rattle.indexmap.specs.IndexMap.{get}
use Rattle.trans_groups.specs.Heads.{IsIndexFrom}
use Rattle.trans_groups.proofs.searching.index_heads.Given as goal

-- the lines from this one on are in the index
abbrev pub invariant-loop-line : goal.invariant-loop-line
invariant-loop-line l = IsIndexFrom l.actions l.line (get nat_eq l.firsts) l.nexts.items

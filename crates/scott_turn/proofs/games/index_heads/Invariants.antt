use Rattle.std.proofs.Common.{nat_eq}
use Rattle.indexmap.specs.IndexMap.{get}
use Rattle.scott_turn.specs.Heads.{IsIndexFrom}
use Rattle.scott_turn.proofs.games.index_heads.Given as goal

-- the lines from this one on are in the index
abbrev pub invariant-loop-line : goal.invariant-loop-line
invariant-loop-line l = IsIndexFrom l.db l.line (get nat_eq l.firsts) l.nexts.items

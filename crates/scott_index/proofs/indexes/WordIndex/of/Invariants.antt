use Rattle.std.proofs.Common.{◌≡◌, ◌<◌, IfSome}
use Rattle.scott_index.specs.BaseEntries.{FindsWordsBefore}
use Rattle.scott_index.proofs.indexes.WordIndex.of.Given as goal

-- what isn't in the index is found from entry k on, and the nearest base entry stands before it
abbrev pub invariant-loop-k : goal.invariant-loop-k
invariant-loop-k l = record {
  finds : FindsWordsBefore l.db l.column l.nearest l.k l.index;
  size : l.index.size ≡ l.db.header.length;
  before : IfSome l.nearest (λ base. base < l.k);
}

use Rattle.std.proofs.Common.{◌≡◌}
use Rattle.trans_data.specs.Nouns.{FindsClassesBefore}
use Rattle.trans_data.proofs.nouns.class_index.Given as goal

-- what isn't in the index is found from noun k on
abbrev pub invariant-loop-k : goal.invariant-loop-k
invariant-loop-k l = record {
  finds : FindsClassesBefore l.db l.k l.index;
  size : l.index.size ≡ l.db.header.length;
}

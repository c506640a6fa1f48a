use Rattle.std.proofs.Common.{◌∙◌, ◌≤◌, length, arith, ap}
use Rattle.scott_index.proofs.BaseEntries.{finds_further, finds_all}
use Rattle.scott_index.proofs.indexes.WordIndex.of.Goals as goal

pub loop-k-preserved : goal.loop-k-preserved
loop-k-preserved c = record {
  finds = finds_further c.args.db.now c.args.column c.loop-k.nearest c.entry_at-entry.result.base
      c.loop-k.k c.entry_at-entry.result.word.now c.loop-k.index c.add_entry.new.index
      c.loop-k.invariant.size c.entry_at-entry.ensures.names c.in_ok-add_entry.ensures.found
      c.loop-k.invariant.finds;
  size = c.in_ok-add_entry.ensures.size ∙ c.loop-k.invariant.size;
  before = c.entry_at-entry.ensures.base;
}

pub returns : goal.returns
returns c =
    let past : length c.args.db.now.words ≤ c.loop-k.k =
    omega (arith, c.loop-k-test.false, ap length c.words-k-end.ensures.value) in
    finds_all c.args.db.now c.args.column c.loop-k.nearest c.loop-k.k c.loop-k.index past
    c.loop-k.invariant.finds

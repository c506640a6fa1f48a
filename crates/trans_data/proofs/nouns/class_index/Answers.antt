use Rattle.std.proofs.Common.{◌∙◌, ◌<◌, ◌≤◌, length, get_or, arith, ap}
use Rattle.trans_data.proofs.ClassIndexes.{finds_further, finds_all}
use Rattle.trans_data.proofs.nouns.class_index.Goals as goal

pub loop-k-preserved : goal.loop-k-preserved
loop-k-preserved c =
    let w = c.index-words-k.result in
    let there : c.loop-k.k < length c.args.db.now.words =
    omega (arith, c.loop-k-test.true, ap length c.words-k-end.ensures.value) in
    record {
      finds = finds_further c.args.db.now c.loop-k.k w c.loop-k.index c.add_class.new.index there
          (c.index-words-k.is
          ∙ ap (λ words. get_or words c.loop-k.k w) c.words-in-loop-k.ensures.value)
          c.loop-k.invariant.size c.in_ok-add_class.ensures.found
          c.loop-k.invariant.finds;
      size = c.in_ok-add_class.ensures.size ∙ c.loop-k.invariant.size;
    }

pub returns : goal.returns
returns c =
    let past : length c.args.db.now.words ≤ c.loop-k.k =
    omega (arith, c.loop-k-test.false, ap length c.words-k-end.ensures.value) in
    finds_all c.args.db.now c.loop-k.k c.loop-k.index past c.loop-k.invariant.finds

use Rattle.std.proofs.Common.{◌≤◌, ◌+◌, ◌%◌, ◌∙◌, sym, arith}
use Rattle.adv_gen.proofs.Words.{noun-after}
use Rattle.adv_gen.proofs.vocabulary.thing_noun.Goals as goal

pub returns : goal.returns
returns c =
    let high : 7 ≤ 7 + c.args.k % (c.args.size + 30) = omega arith in
    record {
      value = c.numbered.ensures
          ∙ sym (noun-after (7 + c.args.k % (c.args.size + 30)) high);
    }

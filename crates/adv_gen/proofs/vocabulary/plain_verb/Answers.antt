use Rattle.std.proofs.Common.{◌∙◌, sym}
use Rattle.adv_gen.proofs.Words.{verb-plain}
use Rattle.adv_gen.proofs.vocabulary.plain_verb.Goals as goal

pub returns : goal.returns
returns c = record {
  value = c.numbered.ensures
      ∙ sym (verb-plain c.args.k c.requires.low c.requires.high);
}

use Rattle.adv_gen.proofs.Picking.{none_taken}
use Rattle.adv_gen.proofs.vocabulary.WordPart.make.Goals as goal

pub returns-clause-next : goal.returns-clause-next
returns-clause-next c = none_taken c.args._picks.now

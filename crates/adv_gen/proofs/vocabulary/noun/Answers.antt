use Rattle.adv_gen.proofs.Words.{noun-after}
use Rattle.adv_gen.proofs.vocabulary.noun.Goals as goal

pub returns-else-k-lt-FIRST_THING : goal.returns-else-k-lt-FIRST_THING
returns-else-k-lt-FIRST_THING c =
    rw (noun-after c.args.k c.if-k-lt-FIRST_THING.false)
    (rw c.numbered.ensures at c.text-else-k-lt-FIRST_THING.ensures)

use Rattle.adv_gen.proofs.Limits.{database_fits}
use Rattle.adv_gen.proofs.games.make.Goals as goal

pub of-requires : goal.of-requires
of-requires c = rw c.in_ok-parts.ensures.made
    (database_fits c.args.n c.requires.some c.requires.small)

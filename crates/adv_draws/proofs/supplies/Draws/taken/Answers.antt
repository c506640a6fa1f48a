use Rattle.std.proofs.Common.{ap}
use Rattle.adv_draws.specs.Supply.{Supply}
use Rattle.adv_draws.proofs.Soundness.{AllDraws-left_of}
use Rattle.adv_draws.proofs.supplies.Draws.taken.Goals as goal

pub returns-clause-range : goal.returns-clause-range
returns-clause-range c =
    rw (← ap (λ (supply : Supply). supply.left) c.self.view_is)
    (AllDraws-left_of c.self.inside.source c.self.inside.taken c.self.invariant)

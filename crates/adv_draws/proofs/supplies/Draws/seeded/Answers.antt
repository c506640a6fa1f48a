use Rattle.adv_draws.specs.Seeded.{seeded_count}
use Rattle.adv_draws.proofs.Rolls.{AllDraws-rolls}
use Rattle.adv_draws.proofs.supplies.Draws.seeded.Goals as goal

pub returns-clause-range : goal.returns-clause-range
returns-clause-range c = AllDraws-rolls seeded_count c.new.result

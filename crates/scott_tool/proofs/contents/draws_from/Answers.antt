use Rattle.std.proofs.Common.{arith}
use Rattle.scott_tool.proofs.Drawn.{length-seeded_draws}
use Rattle.scott_tool.proofs.contents.draws_from.Goals as goal

pub returns-in-Seeded-clause-few : goal.returns-in-Seeded-clause-few
returns-in-Seeded-clause-few c = λ within.
    let many = length-seeded_draws c.in-Seeded.seed in
    rw c.seeded.ensures.value (omega (arith, many))

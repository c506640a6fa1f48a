use Rattle.std.proofs.Common.{◌-◌, ◌+◌, ◌≤◌, ◌∷◌, ap, sym, ◌∙◌, arith}
use Rattle.adv_draws.specs.Seeded.{rolls, draw_of_word}
use Rattle.adv_draws.proofs.Rolls.{rolls-next, rolls-done}
use Rattle.adv_draws.proofs.supplies.Source.draw_at.Goals as goal

pub returns-then-taken-eq-SEEDED_DRAWS : goal.returns-then-taken-eq-SEEDED_DRAWS
returns-then-taken-eq-SEEDED_DRAWS c = record {
  none = (rw c.in-Seeded.is (rolls-done 1000000 c.args.taken c.in-Seeded.generator c.if-taken-eq-SEEDED_DRAWS.true), sym c.in-Seeded.is);
  given = tt;
  sound = tt;
  range = tt;
}

pub returns-else-taken-eq-SEEDED_DRAWS : goal.returns-else-taken-eq-SEEDED_DRAWS
returns-else-taken-eq-SEEDED_DRAWS c =
    let taken = c.args.taken in
    let sound : taken ≤ 1000000 = rw c.in-Seeded.is at c.requires.sound in
    let first = rolls-next 1000000 taken c.in-Seeded.generator sound c.if-taken-eq-SEEDED_DRAWS.false in
    record {
      none = tt;
      given = rw c.in-Seeded.is (first ∙ sym (ap (λ step. draw_of_word step.0 ∷ rolls (1000000 - (taken + 1)) step.1) c.next_word.ensures));
      sound = omega arith;
      range = (omega arith, omega arith);
    }

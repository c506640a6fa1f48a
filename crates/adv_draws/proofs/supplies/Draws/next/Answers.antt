use Rattle.std.proofs.Common.{◌∙◌, ◌+◌, ap, refl, sym}
use Rattle.adv_draws.specs.Supply.{Supply}
use Rattle.adv_draws.proofs.supplies.Draws.next.Goals as goal

pub returns-in_err-draw : goal.returns-in_err-draw
returns-in_err-draw c =
    let left_is = ap (λ (supply : Supply). supply.left) c.self.view_is in
    rw c.from_residual.ensures
    record {
      none = (λ _. sym left_is ∙ c.in_err-draw.ensures.none.0, λ _. refl);
      unchanged = rw c.in_err-draw.ensures.none.1 c.self.view_is;
      given = tt;
      counted = tt;
      range = tt;
    }

pub returns : goal.returns
returns c =
    let left_is = ap (λ (supply : Supply). supply.left) c.self.view_is in
    let left = sym left_is ∙ c.in_ok-draw.ensures.given in
    record {
      none = (λ some. cc, λ empty. cc);
      unchanged = tt;
      given = left;
      counted = ap (λ (supply : Supply). supply.taken + 1) c.self.view_is;
      range = c.in_ok-draw.ensures.range;
    }

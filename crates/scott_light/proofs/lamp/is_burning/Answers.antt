use Rattle.std.proofs.Common.{◌≡◌, ◌∙◌, ℕ, Bool, false, rules, refl, arith, ap, not, negsuc, FitsSigned}
use Rattle.std.specs.Prelude.{◌&&◌, nat_eq}
use Rattle.std.proofs.lemmas.Bool.Decides.{nat_tests}
use mir.Syntax.{w32}
use Rattle.scott_types.specs.State.{place_of, lamp}
use Rattle.scott_light.proofs.Numbers.{eq-bits}
use Rattle.scott_light.proofs.lamp.is_burning.Goals as goal

-- where the lamp is in the game the light alone tells
in_game : (there place : ℕ) (lit : Bool) → there ≡ place → (there ≡ 0 → ⊥) → lit ≡ (not (nat_eq place 0) && lit)
in_game there place lit is kept =
    let differs : nat_eq place 0 ≡ false = grind (arith, nat_tests) in
    rw differs refl

pub returns-then-place-ne0-clause-value : goal.returns-then-place-ne0-clause-value
returns-then-place-ne0-clause-value c =
    let s = c.args.state.now in
    let f : FitsSigned w32 s.light = search rules in
    let spent = eq-bits s.light (negsuc 0) f (search rules) in
    ap not spent ∙ in_game c.place.result (place_of s lamp) _ c.place.ensures.value c.if-place-ne0.true

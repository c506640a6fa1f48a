use Rattle.std.proofs.Common.{◌≡◌, ℕ, rules, refl, ℤ, pos, of_z, to_z, to_z-of_z, FitsSigned}
use Rattle.std.specs.Prelude.{int_lt}
use mir.Syntax.{w16, w64}
use Rattle.scott_actions.proofs.conditions.test.Goals as goal

-- a number and the counter, widened to be compared
widened : (argument : ℕ) (counter x y : ℤ) → FitsSigned w64 x → FitsSigned w64 y → FitsSigned w16 counter → x ≡ pos argument → y ≡ to_z w16 (of_z w16 counter)
    → int_lt (to_z w64 (of_z w64 x)) (to_z w64 (of_z w64 y)) ≡ int_lt (pos argument) counter
widened argument counter x y f g h number count = rw (to_z-of_z f, to_z-of_z g, number, count, to_z-of_z h) refl

pub returns-in-CounterOver : goal.returns-in-CounterOver
returns-in-CounterOver c =
    let counter = c.args.state.now.counter in
    let x = c.from-in-CounterOver.result in
    let y = c.from-in-CounterOver-2.result in
    let f : FitsSigned w64 x = search rules in
    let g : FitsSigned w64 y = search rules in
    let h : FitsSigned w16 counter = search rules in
    rw c.in-CounterOver.is (widened c.args.argument counter x y f g h c.from-in-CounterOver.ensures c.from-in-CounterOver-2.ensures)

use Rattle.std.proofs.Common.{◌≡◌, ◌∙◌, ℕ, rules, arith, ap, ℤ, pos, of_z, to_z, to_z-of_z, FitsSigned, sym}
use Rattle.std.specs.Prelude.{nat_eq}
use Rattle.std.specs.Ordering.{int_eq}
use Rattle.std.proofs.lemmas.Int.{ints}
use mir.Syntax.{w32}
use Rattle.scott_actions.proofs.items.is_full.Goals as goal

-- a count is compared by its bits
same_test : (m n : ℕ) (a b : ℤ) → (m ≡ n → a ≡ b) → (a ≡ b → m ≡ n) → nat_eq m n ≡ int_eq a b
same_test m n a b back forth = grind (arith, ints)

eq-bits : (count : ℕ) (most : ℤ) → FitsSigned w32 (pos count) → FitsSigned w32 most → nat_eq count (of_z w32 most) ≡ int_eq (pos count) most
eq-bits count most f g =
    same_test count (of_z w32 most) (pos count) most
    (λ same. sym (to_z-of_z f) ∙ ap (to_z w32) same ∙ to_z-of_z g)
    (ap (of_z w32))

pub returns : goal.returns
returns c =
    let carry = c.args.db.now.header.carry in
    let f : FitsSigned w32 carry = search rules in
    let g : FitsSigned w32 (pos c.carried_count.result) = search rules in
    rw c.header.ensures
    (eq-bits c.carried_count.result carry g f ∙ ap (λ n. int_eq (pos n) carry) c.carried_count.ensures.count)

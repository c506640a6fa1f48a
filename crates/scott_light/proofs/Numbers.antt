-- Numbers that are compared by their bits.
use Rattle.std.proofs.Common.{◌≡◌, ℕ, ◌∙◌, sym, ap, arith, ℤ, to_z, of_z, to_z-of_z, FitsSigned}
use Rattle.std.specs.Prelude.{nat_eq}
use Rattle.std.specs.Ordering.{int_eq}
use Rattle.std.proofs.lemmas.Int.{ints}
use mir.Syntax.{w32}

same_test : (m n : ℕ) (a b : ℤ) → (m ≡ n → a ≡ b) → (a ≡ b → m ≡ n) → nat_eq m n ≡ int_eq a b
same_test m n a b back forth = grind (arith, ints)

-- the bits of equal numbers are equal, and of others they aren't
pub eq-bits : (a b : ℤ) → FitsSigned w32 a → FitsSigned w32 b → nat_eq (of_z w32 a) (of_z w32 b) ≡ int_eq a b
eq-bits a b f g =
    same_test (of_z w32 a) (of_z w32 b) a b
    (λ same. sym (to_z-of_z f) ∙ ap (to_z w32) same ∙ to_z-of_z g)
    (ap (of_z w32))

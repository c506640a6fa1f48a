-- Words by their numbers.
use Rattle.std.proofs.Common.{◌≡◌, ℕ, ◌≤◌, eqb, false, refl, arith}
use Rattle.std.proofs.lemmas.Bool.Decides.{nat_tests}
use Rattle.std.proofs.lemmas.List.{get_or_past}
use Rattle.adv_gen.specs.Vocabulary.{verb, noun, directions, numbered, letter_v, letter_x}

-- a noun after the directions
pub noun-after : (k : ℕ) → 7 ≤ k → noun k ≡ numbered letter_x k
unfolding noun
noun-after k high = get_or_past directions k (numbered letter_x k) high

pub not_equal : (k n : ℕ) → (k ≡ n → ⊥) → eqb k n ≡ false
not_equal k n h = grind (arith, nat_tests)

-- a verb from 3 to 9
pub verb-plain : (k : ℕ) → 3 ≤ k → k ≤ 9 → verb k ≡ numbered letter_v k
unfolding verb
verb-plain k low high =
    rw (
      not_equal k 0 (λ e. omega arith),
      not_equal k 1 (λ e. omega arith),
      not_equal k 2 (λ e. omega arith),
      not_equal k 10 (λ e. omega arith),
      not_equal k 18 (λ e. omega arith),
    ) refl

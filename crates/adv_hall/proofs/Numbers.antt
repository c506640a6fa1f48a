-- Which session's number a word writes, for the search of a line's session.
use Rattle.std.proofs.Common.{◌≡◌, ◌≢◌, ◌∙◌, ℕ, zero, suc, ◌≤◌, ◌<◌, ◌^◌, Bool, true, false, cond, List, Some, None, Result, Ok, refl, sym, ap, subst, arith}
use Rattle.std.specs.Prelude.{bytes_eq, not, Decides}
use Rattle.std.specs.Fmt.{decimal}
use Rattle.std.specs.Str.{IsUtf8}
use Rattle.std.specs.Str.Parse.{ParsesUnsigned}
use Rattle.std.proofs.lemmas.Slice.Eq.{bytes_eq-Decides}
use Rattle.std.proofs.lemmas.Str.{IsUtf8-from_ascii}
use Rattle.std.proofs.lemmas.Fmt.{decimal_injective, IsAscii-decimal, parse-decimal}
use Rattle.adv_hall.specs.Address.{number_among}

-- a word that writes none of them
pub none-among : (count : ℕ) (word : List ℕ)
    → ((j : ℕ) → 1 ≤ j → j ≤ count → decimal j ≢ word) → number_among count word ≡ None
none-among zero word none = refl
none-among (suc n) word none =
    by (bytes_eq (decimal (suc n)) word) (bytes_eq-Decides (decimal (suc n)) word)
    (none-among n word (λ j first last. none j first (omega (arith, last))))
  where
    by : (q : Bool) → Decides q (decimal (suc n) ≡ word) → number_among n word ≡ None
        → cond q (Some (suc n)) (number_among n word) ≡ None
    by true told below = absurd (none (suc n) (omega arith) (omega arith) (told.0 refl))
    by false told below = below

-- a word that writes one of them
pub is-among : (count : ℕ) (word : List ℕ) (k : ℕ) → count < 2 ^ 64 → 1 ≤ k → k ≤ count
    → decimal k ≡ word → number_among count word ≡ Some k
is-among zero word k few first last is = absurd (omega (arith, first, last))
is-among (suc n) word k few first last is =
    by (bytes_eq (decimal (suc n)) word) (bytes_eq-Decides (decimal (suc n)) word)
    (λ other. is-among n word k (omega (arith, few)) first (omega (arith, last, other)) is)
  where
    top : decimal (suc n) ≡ word → suc n ≡ k
    top same = decimal_injective (suc n) k few (omega (arith, few, last)) (same ∙ sym is)

    by : (q : Bool) → Decides q (decimal (suc n) ≡ word)
        → (suc n ≢ k → number_among n word ≡ Some k)
        → cond q (Some (suc n)) (number_among n word) ≡ Some k
    by true told below = ap Some (top (told.0 refl))
    by false told below = below
        (λ same. absurd (let e : false ≡ true = told.1 (ap decimal same ∙ is) in cc))

-- what is no text of characters writes no number
pub no-text : (count : ℕ) (word : List ℕ) → count < 256 → (IsUtf8 word → ⊥)
    → number_among count word ≡ None
no-text count word few none = none-among count word (λ j first last is.
    let written = IsAscii-decimal j (omega (arith, few, last)) in
    none (subst IsUtf8 is (IsUtf8-from_ascii (decimal j) written)))

-- a number that a word writes is the one that is read of it
pub is-read : {E : Type 0} (word : List ℕ) (r : Result ℕ E) → ParsesUnsigned 8 10 word r → (j : ℕ)
    → j < 256 → decimal j ≡ word → r ≡ Ok j
is-read word r read j few is =
    parse-decimal 8 j word r (omega (arith, few)) (omega (arith, few)) (sym is) read

-- what a test for other bytes tells
module _ (bytes word : List ℕ) (r : Bool) (test : r ≡ not (bytes_eq bytes word)) where
  pub told-same : r ≡ false → bytes ≡ word
  told-same is = by (bytes_eq bytes word) (bytes_eq-Decides bytes word) (sym is ∙ test)
    where
      by : (q : Bool) → Decides q (bytes ≡ word) → false ≡ not q → bytes ≡ word
      by true told e = told.0 refl
      by false told e = absurd (let same : false ≡ true = e in cc)

  pub told-other : r ≡ true → bytes ≢ word
  told-other is same = by (bytes_eq bytes word) (bytes_eq-Decides bytes word) (sym is ∙ test)
    where
      by : (q : Bool) → Decides q (bytes ≡ word) → true ≡ not q → ⊥
      by true told e = let same : true ≡ false = e in absurd cc
      by false told e = let met : false ≡ true = told.1 same in absurd cc

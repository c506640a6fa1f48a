-- Names by their numbers.
use Rattle.std.proofs.Common.{◌≡◌, ◌+◌, ◌*◌, ◌≤◌, ◌<◌, ℕ, zero, suc, Bool, true, false, cond, ltb, List, [], ◌∷◌, ◌++◌, ◌∙◌, length, ◌-◌, take, get_or, refl, sym, ap, subst, arith, ltb-true}
use Rattle.std.specs.Prelude.{◌&&◌}
use Rattle.std.proofs.Math.Seq.{take-length}
use Rattle.std.proofs.lemmas.List.{take_more}
use Rattle.std.specs.Prelude.{nat_eq}
use Rattle.std.specs.Cmp.Lexicographic.{pointwise, bytes_decides}
use Rattle.inform_tree.specs.Names.{with_byte, with_bytes, name_number}

-- what is known of a byte that was told before a number
abbrev Told : ℕ → ℕ → Type 0
Told byte n = (byte < 128) × ((0 < n) × ((n < 144115188075855872) × (with_byte byte n ≡ byte + 128 * n)))

told : (byte n : ℕ) → (with_byte byte n ≡ 0 → ⊥) → Told byte n
told byte n some =
    by (ltb byte 128) (ltb 0 n) (ltb n 144115188075855872) refl refl refl some where
      by : (a b c : Bool) → ltb byte 128 ≡ a → ltb 0 n ≡ b → ltb n 144115188075855872 ≡ c
          → (cond (a && (b && c)) (byte + 128 * n) 0 ≡ 0 → ⊥)
          → (byte < 128) × ((0 < n) × ((n < 144115188075855872) × (cond (a && (b && c)) (byte + 128 * n) 0 ≡ byte + 128 * n)))
      by true true true e f g h =
          (ltb-true byte 128 e, (ltb-true 0 n f, (ltb-true n 144115188075855872 g, refl)))
      by true true false e f g h = absurd (h refl)
      by true false c e f g h = absurd (h refl)
      by false b c e f g h = absurd (h refl)

not-0 : (n : ℕ) → 0 < n → n ≡ 0 → ⊥
not-0 n h e = absurd (omega (arith, h, e))

-- names with one number that isn't 0 are the same
pub by_number : (a b : List ℕ) → name_number a ≡ name_number b → (name_number a ≡ 0 → ⊥) → a ≡ b
by_number [] [] e some = refl
by_number [] (y ∷ b) e some =
    let t = told y (name_number b) (λ z. some (e ∙ z)) in
    absurd (omega (arith, e, t.1.0, t.1.1.1))
by_number (x ∷ a) [] e some =
    let t = told x (name_number a) some in absurd (omega (arith, e, t.1.0, t.1.1.1))
by_number (x ∷ a) (y ∷ b) e some =
    let t = told x (name_number a) some in
    let u = told y (name_number b) (λ z. some (e ∙ z)) in
    let sum : x + 128 * name_number a ≡ y + 128 * name_number b
    = sym t.1.1.1 ∙ e ∙ u.1.1.1 in
    let first : x ≡ y = omega (arith, sum, t.0, u.0) in
    let rest : name_number a ≡ name_number b = omega (arith, sum, t.0, u.0) in
    ap (λ z. z ∷ a) first ∙ ap (λ z. y ∷ z) (by_number a b rest (not-0 (name_number a) t.1.0))

-- what `is` says of them
pub alike : (a b : List ℕ) → (name_number a ≡ 0 → ⊥) → name_number a ≡ name_number b → true ≡ pointwise nat_eq a b
alike a b some e = sym ((bytes_decides a b).1 (by_number a b e some))

pub unlike : (a b : List ℕ) → (name_number a ≡ name_number b → ⊥) → false ≡ pointwise nat_eq a b
unlike a b h = by (pointwise nat_eq a b) refl where
  by : (t : Bool) → pointwise nat_eq a b ≡ t → false ≡ pointwise nat_eq a b
  by false e = sym e
  by true e = absurd (h (ap name_number ((bytes_decides a b).0 e)))

-- the least number of so many bytes
abbrev least : ℕ → ℕ
least zero = 1
least (suc k) = 128 * least k

at-least : (a : List ℕ) → (name_number a ≡ 0 → ⊥) → least (length a) ≤ name_number a
at-least [] some = omega arith
at-least (x ∷ a) some =
    let t = told x (name_number a) some in
    let h = at-least a (not-0 (name_number a) t.1.0) in
    omega (arith, h, t.1.1.1)

large : (k : ℕ) → 144115188075855872 ≤ least (9 + k)
large zero = omega arith
large (suc k) =
    let one : 9 + suc k ≡ suc (9 + k) = omega arith in
    let next : least (9 + suc k) ≡ 128 * least (9 + k) = ap least one in
    omega (arith, large k, next)

-- a name of more bytes than stand in the tree has none
pub none_of_long : (a : List ℕ) → 15 < length a → name_number a ≡ 0
none_of_long [] h = absurd (omega (arith, h))
none_of_long (x ∷ a) h = by (name_number (x ∷ a)) refl where
  length-is : (k : ℕ) → length a ≡ 9 + k → (name_number (x ∷ a) ≡ 0 → ⊥) → ⊥
  length-is k e some =
      let t = told x (name_number a) some in
      let most = at-least a (not-0 (name_number a) t.1.0) in
      let much = subst (λ l. 144115188075855872 ≤ least l) (sym e) (large k) in
      omega (arith, most, much, t.1.1.0)

  by : (n : ℕ) → name_number (x ∷ a) ≡ n → name_number (x ∷ a) ≡ 0
  by zero e = e
  by (suc n) e =
      absurd (length-is (length a - 9) (omega (arith, h)) (λ z. absurd (omega (arith, sym z ∙ e))))

-- bytes of which there are some are those before the last, and the last
pub parted : (bytes : List ℕ) (d : ℕ) → 1 ≤ length bytes
    → bytes ≡ take (length bytes - 1) bytes ++ (get_or bytes (length bytes - 1) d ∷ [])
parted bytes d some =
    sym (take-length bytes) ∙ ap (λ n. take n bytes) (omega (arith, some)) ∙ take_more bytes (length bytes - 1) d (omega (arith, some))

-- a byte before others
pub with_last : (bytes : List ℕ) (byte n : ℕ)
    → with_bytes (bytes ++ (byte ∷ [])) n ≡ with_bytes bytes (with_byte byte n)
with_last [] byte n = refl
with_last (b ∷ bytes) byte n = ap (with_byte b) (with_last bytes byte n)

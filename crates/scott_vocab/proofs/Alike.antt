-- Whether two words have the same bytes, byte by byte.
use Rattle.std.proofs.Common.{◌≡◌, ◌∙◌, ℕ, ◌+◌, ◌<◌, ◌≤◌, List, length, take, get_or, map, Bool, true, false, refl, sym, ap, arith}
use Rattle.std.proofs.lemmas.List.{take_all, take_more_same, get_or-map, length-map}
use Rattle.std.proofs.lemmas.Slice.Eq.{bytes_eq-Decides}
use Rattle.std.specs.Prelude.{bytes_eq}
use Rattle.std.specs.Char.{to_ascii_lowercase}

-- words that differ at a place are not the same
pub differ_at : (xs ys : List ℕ) (i x : ℕ) → i < length xs → x ≡ to_ascii_lowercase (get_or xs i 0) → (x ≡ get_or ys i 0 → ⊥) → false ≡ bytes_eq (map to_ascii_lowercase xs) ys
differ_at xs ys i x within is differ = by_test (bytes_eq (map to_ascii_lowercase xs) ys) refl
  where
    by_test : (b : Bool) → bytes_eq (map to_ascii_lowercase xs) ys ≡ b → false ≡ b
    by_test true e = absurd (differ (is ∙ sym (get_or-map to_ascii_lowercase xs i 0 0 within) ∙ ap (λ l. get_or l i 0) ((bytes_eq-Decides (map to_ascii_lowercase xs) ys).0 e)))
    by_test false e = refl

-- one more byte is the same
pub alike_further : (xs ys : List ℕ) (i x : ℕ) → i < length xs → i < length ys → x ≡ to_ascii_lowercase (get_or xs i 0) → x ≡ get_or ys i 0
    → take i (map to_ascii_lowercase xs) ≡ take i ys → take (i + 1) (map to_ascii_lowercase xs) ≡ take (i + 1) ys
alike_further xs ys i x within there is same before =
    take_more_same (map to_ascii_lowercase xs) ys i 0 (rw (length-map xs to_ascii_lowercase) within) there before (get_or-map to_ascii_lowercase xs i 0 0 within ∙ sym is ∙ same)

-- all bytes were the same
pub alike_to_the_end : (xs ys : List ℕ) (n : ℕ) → length xs ≤ n → length xs ≡ length ys → take n (map to_ascii_lowercase xs) ≡ take n ys → true ≡ bytes_eq (map to_ascii_lowercase xs) ys
alike_to_the_end xs ys n whole sizes same =
    sym ((bytes_eq-Decides (map to_ascii_lowercase xs) ys).1
    (sym (take_all n (map to_ascii_lowercase xs) (rw (length-map xs to_ascii_lowercase) whole)) ∙ same ∙ take_all n ys (omega (arith, whole, sizes))))

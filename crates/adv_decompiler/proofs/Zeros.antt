-- Zeros at the end of a list, taken away one by one.
use Rattle.std.proofs.Common.{◌≡◌, ℕ, ◌+◌, ◌<◌, ◌&&◌, Bool, true, false, cond, eqb, List, [], ◌∷◌, ◌++◌, take, length, get_or, refl, sym, ap, ◌∙◌}
use Rattle.std.specs.List.{list_all}
use Rattle.std.proofs.lemmas.Bool.{and_right, and_left, cond-false}
use Rattle.std.proofs.lemmas.List.{take_more}
use Rattle.scott_types.specs.Action.{is_zero}
use Rattle.adv_decompiler.specs.Written.{without_zeros}

all-last : (xs : List ℕ) → list_all is_zero (xs ++ 0 ∷ []) ≡ list_all is_zero xs
all-last [] = refl
all-last (x ∷ xs) = ap (λ (b : Bool). is_zero x && b) (all-last xs)

zero-last : (xs : List ℕ) → without_zeros (xs ++ 0 ∷ []) ≡ without_zeros xs
zero-last [] = refl
zero-last (x ∷ xs) =
    ap (λ (b : Bool). cond (is_zero x && b) [] (x ∷ without_zeros (xs ++ 0 ∷ []))) (all-last xs)
    ∙ ap (λ (ns : List ℕ). cond (is_zero x && list_all is_zero xs) [] (x ∷ ns)) (zero-last xs)

some-last : (xs : List ℕ) (n : ℕ) → eqb n 0 ≡ false → list_all is_zero (xs ++ n ∷ []) ≡ false
some-last [] n h = and_left (is_zero n) true h
some-last (x ∷ xs) n h = and_right (is_zero x) (list_all is_zero (xs ++ n ∷ [])) (some-last xs n h)

last-kept : (xs : List ℕ) (n : ℕ) → eqb n 0 ≡ false → without_zeros (xs ++ n ∷ []) ≡ xs ++ n ∷ []
last-kept [] n h = cond-false (is_zero n && true) _ _ (and_left (is_zero n) true h)
last-kept (x ∷ xs) n h =
    cond-false (is_zero x && list_all is_zero (xs ++ n ∷ [])) _ _ (and_right (is_zero x) (list_all is_zero (xs ++ n ∷ [])) (some-last xs n h))
    ∙ ap (λ (ns : List ℕ). x ∷ ns) (last-kept xs n h)

-- one zero less
pub less-zero : (xs : List ℕ) (i : ℕ) → i < length xs → get_or xs i 0 ≡ 0 → without_zeros (take (i + 1) xs) ≡ without_zeros (take i xs)
less-zero xs i there zero =
    ap without_zeros (take_more xs i 0 there) ∙ ap (λ (n : ℕ). without_zeros (take i xs ++ n ∷ [])) zero ∙ zero-last (take i xs)

-- up to a number that isn't 0 all are kept
pub all-kept : (xs : List ℕ) (i : ℕ) → i < length xs → eqb (get_or xs i 0) 0 ≡ false → without_zeros (take (i + 1) xs) ≡ take (i + 1) xs
all-kept xs i there other =
    ap without_zeros (take_more xs i 0 there) ∙ last-kept (take i xs) (get_or xs i 0) other ∙ sym (take_more xs i 0 there)

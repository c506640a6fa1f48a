-- The texts that are chosen of the first entries, and of one more.
use Rattle.std.proofs.Common.{◌≡◌, ◌∙◌, ℕ, zero, suc, ◌+◌, ◌<◌, ◌≤◌, List, [], ◌∷◌, ◌++◌, length, take, get_or, map, Bool, true, false, cond, refl, sym, ap, arith, add-one, append-nil, append_assoc}
use Rattle.std.specs.Prelude.{zip, filter}
use Rattle.std.proofs.lemmas.List.{take_all}
use Rattle.scott_rules.specs.Looking.{chosen}

module _ {A B : Type 0} (passes : B → Bool) (text : A → List ℕ) where
  -- what one entry adds
  abbrev pub here : Bool → A → List (List ℕ)
  here true entry = text entry ∷ []
  here false entry = []

  first_pair : (b : Bool) (pair : A × B) (pairs : List (A × B))
      → map (λ (p : A × B). text p.0) (cond b (pair ∷ pairs) pairs) ≡ here b pair.0 ++ map (λ (p : A × B). text p.0) pairs
  first_pair true pair pairs = refl
  first_pair false pair pairs = refl

  chosen-cons : (x : A) (xs : List A) (y : B) (ys : List B) → chosen passes text (x ∷ xs) (y ∷ ys) ≡ here (passes y) x ++ chosen passes text xs ys
  chosen-cons x xs y ys = first_pair (passes y) (x, y) (filter (λ pair. passes pair.1) (zip xs ys))

  -- one entry more adds its text where its partner passes, and nothing where it doesn't
  chosen-next : (xs : List A) (ys : List B) (i : ℕ) (x : A) (y : B) → i < length xs → i < length ys
      → chosen passes text (take (suc i) xs) (take (suc i) ys) ≡ chosen passes text (take i xs) (take i ys) ++ here (passes (get_or ys i y)) (get_or xs i x)
  chosen-next [] ys i x y h k = absurd (omega arith)
  chosen-next (a ∷ xs) [] i x y h k = absurd (omega arith)
  chosen-next (a ∷ xs) (b ∷ ys) zero x y h k = chosen-cons a [] b [] ∙ append-nil (here (passes b) a)
  chosen-next (a ∷ xs) (b ∷ ys) (suc i) x y h k =
      let last = here (passes (get_or ys i y)) (get_or xs i x) in
      chosen-cons a (take (suc i) xs) b (take (suc i) ys)
      ∙ ap (λ texts. here (passes b) a ++ texts) (chosen-next xs ys i x y (omega arith) (omega arith))
      ∙ sym (append_assoc (here (passes b) a) (chosen passes text (take i xs) (take i ys)) last)
      ∙ ap (λ texts. texts ++ last) (sym (chosen-cons a (take i xs) b (take i ys)))

  -- an entry whose partner passes is chosen, and one whose partner doesn't isn't
  pub chosen-kept : (xs : List A) (ys : List B) (i : ℕ) (x : A) (y : B) → i < length xs → i < length ys → passes (get_or ys i y) ≡ true
      → chosen passes text (take (i + 1) xs) (take (i + 1) ys) ≡ chosen passes text (take i xs) (take i ys) ++ text (get_or xs i x) ∷ []
  chosen-kept xs ys i x y h k e = rw (add-one, chosen-next xs ys i x y h k, e) refl

  pub chosen-passed_over : (xs : List A) (ys : List B) (i : ℕ) (x : A) (y : B) → i < length xs → i < length ys → passes (get_or ys i y) ≡ false
      → chosen passes text (take (i + 1) xs) (take (i + 1) ys) ≡ chosen passes text (take i xs) (take i ys)
  chosen-passed_over xs ys i x y h k e =
      rw (add-one, chosen-next xs ys i x y h k, e) (append-nil (chosen passes text (take i xs) (take i ys)))

zip-take : {A B : Type 0} (xs : List A) (ys : List B) (n : ℕ) → length xs ≤ n → zip xs (take n ys) ≡ zip xs ys
zip-take [] ys n h = refl
zip-take (x ∷ xs) [] n h = ap (zip (x ∷ xs)) (take_all n [] (omega arith))
zip-take (x ∷ xs) (y ∷ ys) zero h = absurd (omega arith)
zip-take (x ∷ xs) (y ∷ ys) (suc n) h = ap (λ pairs. (x, y) ∷ pairs) (zip-take xs ys n (omega arith))

-- partners after the last entry choose nothing
pub chosen-whole : {A B : Type 0} (passes : B → Bool) (text : A → List ℕ) (xs : List A) (ys : List B) (n : ℕ) → length xs ≤ n
    → chosen passes text (take n xs) (take n ys) ≡ chosen passes text xs ys
chosen-whole passes text xs ys n h =
    rw (take_all n xs h) (ap (λ pairs. map (λ pair. text pair.0) (filter (λ pair. passes pair.1) pairs)) (zip-take xs ys n h))

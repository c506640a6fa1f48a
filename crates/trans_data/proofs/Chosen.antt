-- The texts that are chosen of lists, one after the other, and how they are joined.
use Rattle.std.proofs.Common.{◌≡◌, ◌∙◌, arith, ℕ, ◌+◌, nat_eq, Bool, true, false, cond, if◌then◌else◌, List, [], ◌∷◌, ◌++◌, map, length, fold, refl, sym, ap, append_assoc}
use Rattle.std.specs.Prelude.{zip, filter, flat_map}
use Rattle.adv_io.specs.Text.{joined}
use Rattle.scott_rules.specs.Looking.{chosen}

-- ---- the first of two lists

module _ {A B : Type 0} (passes : B → Bool) (text : A → List ℕ) where
  -- with the text of the first, if it is chosen
  abbrev pub with_first : Bool → A → List (List ℕ) → List (List ℕ)
  with_first true x texts = text x ∷ texts
  with_first false x texts = texts

  by : (b : Bool) (x : A) (y : B) (pairs : List (A × B))
      → map (λ (pair : A × B). text pair.0) (cond b ((x, y) ∷ pairs) pairs)
      ≡ with_first b x (map (λ (pair : A × B). text pair.0) pairs)
  by true x y pairs = refl
  by false x y pairs = refl

  pub chosen_first : (x : A) (xs : List A) (y : B) (ys : List B)
      → chosen passes text (x ∷ xs) (y ∷ ys)
      ≡ with_first (passes y) x (chosen passes text xs ys)
  chosen_first x xs y ys = by (passes y) x y (filter (λ pair. passes pair.1) (zip xs ys))

  -- as many texts are chosen as partners pass
  pub chosen_count : (xs : List A) (ys : List B) (n : ℕ) → length ys ≡ length xs
      → fold (λ n y. n + cond (passes y) 1 0) n ys ≡ n + length (chosen passes text xs ys)
  chosen_count [] [] n same = omega arith
  chosen_count [] (y ∷ ys) n same = absurd (omega (arith, same))
  chosen_count (x ∷ xs) [] n same = absurd (omega (arith, same))
  chosen_count (x ∷ xs) (y ∷ ys) n same =
      from (passes y) (λ m. chosen_count xs ys m (omega (arith, same)))
      ∙ ap (λ texts. n + length texts) (sym (chosen_first x xs y ys)) where
        from : (b : Bool)
            → ((m : ℕ) → fold (λ n y. n + cond (passes y) 1 0) m ys
            ≡ m + length (chosen passes text xs ys))
            → fold (λ n y. n + cond (passes y) 1 0) (n + cond b 1 0) ys
            ≡ n + length (with_first b x (chosen passes text xs ys))
        from true h = h (n + 1) ∙ omega arith
        from false h = h (n + 0) ∙ omega arith

-- ---- joined texts: what is said of those to come, by whether one was said before

abbrev pub rest_joined : List ℕ → ℕ → List (List ℕ) → List ℕ
rest_joined separator n [] = []
rest_joined separator n (text ∷ texts) =
    (if nat_eq n 0 then [] else separator) ++ (text ++ rest_joined separator 1 texts)

others : (separator : List ℕ) (texts : List (List ℕ))
    → rest_joined separator 1 texts ≡ flat_map (λ other. separator ++ other) texts
others separator [] = refl
others separator (text ∷ texts) =
    sym (append_assoc separator text (rest_joined separator 1 texts))
    ∙ ap (λ rest. (separator ++ text) ++ rest) (others separator texts)

pub all_joined : (separator : List ℕ) (texts : List (List ℕ))
    → rest_joined separator 0 texts ≡ joined separator texts
all_joined separator [] = refl
all_joined separator (text ∷ texts) = ap (λ rest. text ++ rest) (others separator texts)

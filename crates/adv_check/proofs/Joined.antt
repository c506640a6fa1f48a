-- The warnings of places one after the other, and texts one after the other.
use Rattle.std.proofs.Common.{◌≡◌, ◌∙◌, ℕ, zero, suc, ◌+◌, ◌<◌, List, [], ◌∷◌, ◌++◌, length, map, take, get_or, refl, sym, ap, arith, add-one, append-nil, append_assoc}
use Rattle.std.proofs.lemmas.List.Elements.{filter_map-append}
use Rattle.std.specs.List.{flat_map}
use Rattle.std.proofs.lemmas.List.{flat_map_more, map_more, take_more}
use Rattle.adv_check.specs.declared.findings.Warning.{Warning}
use Rattle.adv_check.specs.Sites.{Site, each_from, warning_at, warnings_of}

-- the places of one element more
module _ {X : Type 0} (of : ℕ → X → List Site) where
  -- the first elements have the places of those before the last of them, and then its own
  each_from-next : (xs : List X) (first i : ℕ) (x : X) → i < length xs
      → each_from first of (take (suc i) xs) ≡ each_from first of (take i xs) ++ of (first + i) (get_or xs i x)
  each_from-next [] first i x h = absurd (omega arith)
  each_from-next (y ∷ xs) first zero x h =
      let same : first ≡ first + zero = omega arith in
      append-nil (of first y) ∙ ap (λ n. of n y) same
  each_from-next (y ∷ xs) first (suc i) x h =
      let same : first + 1 + i ≡ first + suc i = omega arith in
      let last = of (first + 1 + i) (get_or xs i x) in
      ap (λ places. of first y ++ places) (each_from-next xs (first + 1) i x (omega arith))
      ∙ sym (append_assoc (of first y) (each_from (first + 1) of (take i xs)) last)
      ∙ ap (λ n. (of first y ++ each_from (first + 1) of (take i xs)) ++ of n (get_or xs i x)) same

-- warnings of places, and of those after them
pub both : (start first second : List Warning) (xs ys : List Site) → first ≡ start ++ warnings_of xs → second ≡ first ++ warnings_of ys
    → second ≡ start ++ warnings_of (xs ++ ys)
both start first second xs ys e f =
    f ∙ rw (e, filter_map-append warning_at xs ys) (append_assoc start (warnings_of xs) (warnings_of ys))

-- a loop's step: the warnings of the elements so far, and of the next one
pub one_more : {X : Type 0} (of : ℕ → X → List Site) (xs : List X) (first i number : ℕ) (x d : X) (start before after : List Warning)
    → i < length xs → number ≡ first + i → x ≡ get_or xs i d
    → before ≡ start ++ warnings_of (each_from first of (take i xs)) → after ≡ before ++ warnings_of (of number x)
    → after ≡ start ++ warnings_of (each_from first of (take (i + 1) xs))
one_more of xs first i number x d start before after h counted is so_far added =
    both start before after (each_from first of (take i xs)) (of (first + i) (get_or xs i d)) so_far (rw (counted, is) at added)
    ∙ rw (add-one, each_from-next of xs first i d h) refl

-- a loop's step: what each element so far gives, and what the next one gives
pub one_more_given : {X Y : Type 0} (f : X → Y) (xs : List X) (i : ℕ) (d : X) (before after : List Y) (y : Y)
    → i < length xs → y ≡ f (get_or xs i d) → before ≡ map f (take i xs) → after ≡ before ++ y ∷ [] → after ≡ map f (take (i + 1) xs)
one_more_given f xs i d before after y h is so_far added = added ∙ rw (so_far, is) (sym (map_more f xs i d h))

-- a loop's step: the texts of the elements so far, and of the next one
pub one_more_text : {X : Type 0} (text : X → List ℕ) (xs : List X) (i : ℕ) (d : X) (start before after : List ℕ)
    → i < length xs → before ≡ start ++ flat_map text (take i xs) → after ≡ before ++ text (get_or xs i d) → after ≡ start ++ flat_map text (take (i + 1) xs)
one_more_text text xs i d start before after h so_far added =
    added ∙ rw (so_far, flat_map_more text start (take i xs) (get_or xs i d), sym (take_more xs i d h)) refl

-- three texts that were written one after the other, from nothing on
pub three_written : (start o₁ o₂ o₃ a b c : List ℕ) → start ≡ [] → o₁ ≡ start ++ a → o₂ ≡ o₁ ++ b → o₃ ≡ o₂ ++ c → o₃ ≡ a ++ (b ++ c)
three_written start o₁ o₂ o₃ a b c none h₁ h₂ h₃ = h₃ ∙ rw (h₂, h₁, none) (append_assoc a b c)

-- four texts that were written one after the other
pub four_written : (start o₁ o₂ o₃ o₄ a b c d : List ℕ) → o₁ ≡ start ++ a → o₂ ≡ o₁ ++ b → o₃ ≡ o₂ ++ c → o₄ ≡ o₃ ++ d
    → o₄ ≡ start ++ (a ++ (b ++ (c ++ d)))
four_written start o₁ o₂ o₃ o₄ a b c d h₁ h₂ h₃ h₄ = h₄ ∙ rw (h₃, h₂, h₁) (simp append_assoc)

-- six texts that were written one after the other
pub six_written : (start o₁ o₂ o₃ o₄ o₅ o₆ a b c d e f : List ℕ) → o₁ ≡ start ++ a → o₂ ≡ o₁ ++ b → o₃ ≡ o₂ ++ c → o₄ ≡ o₃ ++ d → o₅ ≡ o₄ ++ e → o₆ ≡ o₅ ++ f
    → o₆ ≡ start ++ (a ++ (b ++ (c ++ (d ++ (e ++ f)))))
six_written start o₁ o₂ o₃ o₄ o₅ o₆ a b c d e f h₁ h₂ h₃ h₄ h₅ h₆ = h₆ ∙ rw (h₅, h₄, h₃, h₂, h₁) (simp append_assoc)

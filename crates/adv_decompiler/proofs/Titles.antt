-- The names of entries, each of a letter and the entry's number, are found as those numbers.
use Rattle.std.proofs.Common.{◌≡◌, ℕ, ◌+◌, ◌^◌, ◌≤◌, ◌<◌, inl, inr, false, cond, List, [], ◌∷◌, map, length, pos, Option, Some, None, refl, sym, ap, ◌∙◌, arith}
use Rattle.std.specs.Str.{bytes_eq}
use Rattle.std.specs.Fmt.{decimal}
use Rattle.std.proofs.lemmas.Bool.{cond-true, cond-false, cases_eq, false_from_ne_true}
use Rattle.source_reader.specs.declared.tree.At.{At}
use Rattle.adv_compiler.specs.Known.{named_from}
use Rattle.adv_decompiler.proofs.Names.{name-one, name-same}
use Rattle.adv_decompiler.proofs.Listing.{Each}

-- the entry of number k has the name of this letter and k
abbrev pub Names : {X E : Type 0} → (ℕ → X → At E → Type 0) → (At E → Option (List ℕ)) → ℕ → Type 0
Names {X} {E} R title letter = (k : ℕ) (x : X) (e : At E) → R k x e → title e ≡ Some (letter ∷ decimal k)

module _ {X E : Type 0} (R : ℕ → X → At E → Type 0) (title : At E → Option (List ℕ)) (letter : ℕ) (names : Names R title letter) where
  first_name : (k : ℕ) (x : X) (e : At E) (titles : List (Option (List ℕ))) (word : List ℕ) → R k x e
      → named_from (title e ∷ titles) k word ≡ cond (bytes_eq word (letter ∷ decimal k)) (Some (pos k)) (named_from titles (k + 1) word)
  first_name k x e titles word h = ap (λ (t : Option (List ℕ)). named_from (t ∷ titles) k word) (names k x e h)

  -- entry j's name is found as j, among those from k on
  pub found_from : (xs : List X) (entries : List (At E)) (k j : ℕ) → k ≤ j → j < k + length xs → k + length xs ≤ 1000 → Each R k xs entries
      → named_from (map title entries) k (letter ∷ decimal j) ≡ Some (pos j)
  found_from [] entries k j least most few h = absurd (omega arith)
  found_from (x ∷ xs) [] k j least most few h = absurd h
  found_from (x ∷ xs) (e ∷ entries) k j least most few h =
      let j_small : j < 2 ^ 64 = omega arith in
      let k_small : k < 2 ^ 64 = omega arith in
      first_name k x e (map title entries) (letter ∷ decimal j) h.0
      ∙ elim (cases_eq j k) [
        | inl same ↦
            ap (λ (n : ℕ). cond (bytes_eq (letter ∷ decimal n) (letter ∷ decimal k)) (Some (pos k)) (named_from (map title entries) (k + 1) (letter ∷ decimal n))) same
            ∙ cond-true (bytes_eq (letter ∷ decimal k) (letter ∷ decimal k)) (Some (pos k)) (named_from (map title entries) (k + 1) (letter ∷ decimal k))
            (name-same (letter ∷ decimal k))
            ∙ ap (λ (n : ℕ). Some (pos n)) (sym same)
        | inr other ↦
            cond-false (bytes_eq (letter ∷ decimal j) (letter ∷ decimal k)) (Some (pos k)) (named_from (map title entries) (k + 1) (letter ∷ decimal j))
            (false_from_ne_true (bytes_eq (letter ∷ decimal j) (letter ∷ decimal k)) (λ e. other (name-one letter j k j_small k_small e)))
            ∙ found_from xs entries (k + 1) j (omega arith) (omega arith) (omega arith) h.1
      ]

  -- a word that is none of the names isn't found
  pub none_found : (word : List ℕ) → ((k : ℕ) → bytes_eq word (letter ∷ decimal k) ≡ false) → (xs : List X) (entries : List (At E)) (k : ℕ)
      → Each R k xs entries → named_from (map title entries) k word ≡ None
  none_found word other [] [] k h = refl
  none_found word other [] (e ∷ entries) k h = absurd h
  none_found word other (x ∷ xs) [] k h = absurd h
  none_found word other (x ∷ xs) (e ∷ entries) k h =
      first_name k x e (map title entries) word h.0
      ∙ cond-false (bytes_eq word (letter ∷ decimal k)) (Some (pos k)) (named_from (map title entries) (k + 1) word) (other k)
      ∙ none_found word other xs entries (k + 1) h.1

-- Files in a list, by their names.
use Rattle.std.proofs.Common.{◌≡◌, ◌∙◌, ℕ, suc, ◌<◌, ◌≤◌, Bool, true, false, cond, List, [], ◌∷◌, ◌++◌, map, length, get_or, set, refl, sym, ap, arith, Option, Some, None, String, Vec, string_bytes, slice_get, option_map, bytes_eq}
use Rattle.std.proofs.lemmas.List.{map-append}
use Rattle.std.proofs.lemmas.Option.{slice_get_past, slice_get-get_or}
use Rattle.std.proofs.lemmas.Cmp.{eq_by_cmp_equiv}
use Rattle.std.proofs.lemmas.Map.Text.{is_eq-slice_cmp}
use Rattle.std.specs.Cmp.{IsEquivalence}
use Rattle.std.specs.Cmp.Lexicographic.{slice_cmp, nat_list_cmp_total}
use Rattle.std.specs.FinMap.{find, insert, from_entries, get-from_entries, get-insert, same_map, from_entries_push, slice_cmp-IsAntisymmetric, nat_cmp-IsAntisymmetric}
use Rattle.std.specs.List.{position, position_or_len}
use Rattle.std.proofs.lemmas.List.Quantifiers.{position-Some}
use Rattle.std.proofs.lemmas.Slice.Eq.{bytes_eq-Decides}
use Rattle.std.proofs.lemmas.List.Recursion.{is_position_or_len}
use borrow.Author.Tests.{ltb-true, ltb-false}
use lib.Dec.{ltb}
use Rattle.std.specs.Ordering.{nat_cmp, eq_by_cmp}
use Rattle.adv_io.specs.Shelved.{entry}

-- names are the same
abbrev pub same : List ℕ → List ℕ → Bool
same a b = eq_by_cmp (slice_cmp nat_cmp) a b

same_laws : IsEquivalence same
same_laws = eq_by_cmp_equiv nat_list_cmp_total

-- a test that is repeated
shadowed : {X : Type 0} (b : Bool) (x y z : X) → cond b x z ≡ cond b x (cond b y z)
shadowed true x y z = refl
shadowed false x y z = refl

-- two tests that never both pass
swapped : {X : Type 0} (a b : Bool) (x y z : X) → (a ≡ true → b ≡ false) → cond a x (cond b y z) ≡ cond b y (cond a x z)
swapped true true x y z apart = absurd (cc (apart refl))
swapped true false x y z apart = refl
swapped false b x y z apart = refl

-- a name has one place
apart : (q other name : List ℕ) → same other name ≡ false → same q other ≡ true → same q name ≡ false
apart q other name differs is = same_laws.congr q other name is ∙ differs

alike : (q other name : List ℕ) → same other name ≡ true → same q other ≡ same q name
alike q other name is = same_laws.symm q other ∙ same_laws.congr other name q is ∙ same_laws.symm name q

-- where a place was found
placed : (b : Bool) (k i : ℕ) → cond b (Some k) None ≡ Some i → (b ≡ true) × (k ≡ i)
placed true k i e = (refl, cc)
placed false k i e = absurd cc

unplaced : (b : Bool) (k : ℕ) → cond b (Some k) None ≡ None → b ≡ false
unplaced true k e = absurd cc
unplaced false k e = refl

module _ {A B : Type 0} (name : List ℕ) where
  abbrev pub has : String A × Vec ℕ B → Bool
  has file = bytes_eq (string_bytes file.0) name

  has-same : (file : String A × Vec ℕ B) → same name (string_bytes file.0) ≡ has file
  has-same file = same_laws.symm name (string_bytes file.0) ∙ is_eq-slice_cmp (string_bytes file.0) name

  -- the place of the first file of that name, or the number of files
  abbrev pub place : List (String A × Vec ℕ B) → ℕ
  place [] = 0
  place (file ∷ files) = cond (has file) 0 (suc (place files))

  place-position : (files : List (String A × Vec ℕ B)) → place files ≡ position_or_len has files
  place-position files = is_position_or_len place has refl (λ file files. ap (cond (has file) 0) (omega arith)) files

  place-Some : (files : List (String A × Vec ℕ B)) (i : ℕ) → position has files ≡ Some i → (place files < length files) × (place files ≡ i)
  place-Some files i e =
      let found = placed (ltb (position_or_len has files) (length files)) (position_or_len has files) i e in
      let within : position_or_len has files < length files = omega (arith, ltb-true, found.0) in
      (omega (arith, place-position files, within), place-position files ∙ found.1)

  place-None : (files : List (String A × Vec ℕ B)) → position has files ≡ None → length files ≤ place files
  place-None files e =
      let missed = unplaced (ltb (position_or_len has files) (length files)) (position_or_len has files) e in
      let past : length files ≤ position_or_len has files = omega (arith, ltb-false, missed) in
      omega (arith, place-position files, past)

  -- the first file of that name is the one that the map has
  find-here : (file : String A × Vec ℕ B) (files : List (String A × Vec ℕ B)) (rest : Option (List ℕ)) (b : Bool) → rest ≡ option_map (λ f. f.1.items) (slice_get files (place files)) → cond b (Some file.1.items) rest ≡ option_map (λ f. f.1.items) (slice_get (file ∷ files) (cond b 0 (suc (place files))))
  find-here file files rest true e = refl
  find-here file files rest false e = e

  find-place : (files : List (String A × Vec ℕ B)) → find (slice_cmp nat_cmp) name (map entry files) ≡ option_map (λ f. f.1.items) (slice_get files (place files))
  find-place [] = refl
  find-place (file ∷ files) =
      ap (λ b. cond b (Some file.1.items) (find (slice_cmp nat_cmp) name (map entry files))) (has-same file)
      ∙ find-here file files (find (slice_cmp nat_cmp) name (map entry files)) (has file) (find-place files)

  pub find-None : (files : List (String A × Vec ℕ B)) → position has files ≡ None → find (slice_cmp nat_cmp) name (map entry files) ≡ None
  find-None files e = find-place files ∙ ap (option_map (λ f. f.1.items)) (slice_get_past files (place files) (place-None files e))

  pub find-Some : (files : List (String A × Vec ℕ B)) (i : ℕ) (d : String A × Vec ℕ B) → position has files ≡ Some i → find (slice_cmp nat_cmp) name (map entry files) ≡ Some (get_or files i d).1.items
  find-Some files i d e =
      let here = place-Some files i e in
      find-place files
      ∙ ap (option_map (λ f. f.1.items)) (slice_get-get_or files (place files) d here.0)
      ∙ ap (λ k. Some (get_or files k d).1.items) here.1

  -- another file in that place is what the map then has
  module _ (q : List ℕ) (file : String A × Vec ℕ B) (named : string_bytes file.0 ≡ name) where
    set-here : (old : String A × Vec ℕ B) (files : List (String A × Vec ℕ B)) (b : Bool) → same (string_bytes old.0) name ≡ b
        → (b ≡ false → find (slice_cmp nat_cmp) q (map entry (set files (place files) file)) ≡ cond (same q name) (Some file.1.items) (find (slice_cmp nat_cmp) q (map entry files)))
        → find (slice_cmp nat_cmp) q (map entry (set (old ∷ files) (cond b 0 (suc (place files))) file)) ≡ cond (same q name) (Some file.1.items) (find (slice_cmp nat_cmp) q (map entry (old ∷ files)))
    set-here old files true e rest = rw (named, alike q (string_bytes old.0) name e) (shadowed (same q name) (Some file.1.items) (Some old.1.items) (find (slice_cmp nat_cmp) q (map entry files)))
    set-here old files false e rest =
        ap (cond (same q (string_bytes old.0)) (Some old.1.items)) (rest refl)
        ∙ swapped (same q (string_bytes old.0)) (same q name) (Some old.1.items) (Some file.1.items) (find (slice_cmp nat_cmp) q (map entry files)) (apart q (string_bytes old.0) name e)

    find-set : (files : List (String A × Vec ℕ B)) → place files < length files → find (slice_cmp nat_cmp) q (map entry (set files (place files) file)) ≡ cond (same q name) (Some file.1.items) (find (slice_cmp nat_cmp) q (map entry files))
    find-set [] within = absurd (omega arith)
    find-set (old ∷ files) within =
        set-here old files (has old) (is_eq-slice_cmp (string_bytes old.0) name)
        (λ missed. find-set files (let inside = rw missed at within in omega (arith, inside)))

-- bytes that compare as the same are
bytes-same : (a b : List ℕ) → bytes_eq a b ≡ true → a ≡ b
bytes-same a b e = (bytes_eq-Decides a b).0 e

-- the file in the place that was found has the name
pub named-place : {A B : Type 0} (name : List ℕ) (files : List (String A × Vec ℕ B)) (i : ℕ) (d : String A × Vec ℕ B) → position (has {A = A} {B = B} name) files ≡ Some i → string_bytes (get_or files i d).0 ≡ name
named-place {A = A} {B = B} name files i d e = bytes-same (string_bytes (get_or files i d).0) name (position-Some (has {A = A} {B = B} name) files i d e).1

-- a file in the place of the old one, and one of a new name
pub from_entries-set : {A B : Type 0} (name : List ℕ) (files : List (String A × Vec ℕ B)) (i : ℕ) (file : String A × Vec ℕ B) → position (has {A = A} {B = B} name) files ≡ Some i → string_bytes file.0 ≡ name → from_entries {R = slice_cmp nat_cmp} (map entry (set files i file)) ≡ insert (from_entries (map entry files)) name file.1.items
from_entries-set name files i file e named =
    let here = place-Some name files i e in
    same_map nat_list_cmp_total (slice_cmp-IsAntisymmetric nat_cmp-IsAntisymmetric) _ _ (λ q.
    get-from_entries nat_list_cmp_total (map entry (set files i file)) q
    ∙ ap (λ k. find (slice_cmp nat_cmp) q (map entry (set files k file))) (sym here.1)
    ∙ find-set name q file named files here.0
    ∙ sym (get-insert nat_list_cmp_total (from_entries (map entry files)) name file.1.items q
    ∙ ap (cond (same q name) (Some file.1.items)) (get-from_entries nat_list_cmp_total (map entry files) q)))

pub from_entries-push : {A B : Type 0} (name : List ℕ) (files : List (String A × Vec ℕ B)) (file : String A × Vec ℕ B) → position (has {A = A} {B = B} name) files ≡ None → string_bytes file.0 ≡ name → from_entries {R = slice_cmp nat_cmp} (map entry (files ++ file ∷ [])) ≡ insert (from_entries (map entry files)) name file.1.items
from_entries-push name files file e named =
    ap (λ es. from_entries {R = slice_cmp nat_cmp} es) (map-append entry files (file ∷ []))
    ∙ from_entries_push nat_list_cmp_total (slice_cmp-IsAntisymmetric nat_cmp-IsAntisymmetric) (map entry files) (string_bytes file.0) file.1.items (rw named (find-None name files e))
    ∙ ap (λ k. insert (from_entries (map entry files)) k file.1.items) named

-- Bytes that stand among the entries of an array.
use Rattle.std.proofs.Common.{◌≡◌, ◌∙◌, arith, ℕ, zero, suc, ◌+◌, ◌≤◌, ℤ, pos, List, [], ◌∷◌, ◌++◌, length, take, drop, slice_get, Option, Some, refl, sym, ap, append_assoc, drop-drop, zero-add}
use Rattle.std.proofs.lemmas.List.{map-append, length-map, take-append-drop}
use Rattle.std.proofs.Math.Seq.{take-append_seam}
use Rattle.trans_specs.specs.Views.{naturals}
use Rattle.trans_specs.specs.Standing.{BytesAt}

-- these bytes stand among the entries from this one on, and then there are others
pub record BytesStand (bytes : List ℕ) (at : ℕ) (all : List ℤ) : Type 0 where
  pub others : List ℤ
  pub is : drop at all ≡ naturals bytes ++ others

-- as the tables and the buffer say it, and back
pub by_bytes : (bytes : List ℕ) (at : ℕ) (all : List ℤ)
    → take (length bytes) (drop at all) ≡ naturals bytes → BytesStand bytes at all
by_bytes bytes at all h = record {
  others = drop (length bytes) (drop at all);
  is = sym (take-append-drop (length bytes) (drop at all))
      ∙ ap (λ (xs : List ℤ). xs ++ drop (length bytes) (drop at all)) h;
}

pub to_bytes : (bytes : List ℕ) (at : ℕ) (all : List ℤ) {entries : Option (List ℤ)}
    → entries ≡ Some all → BytesStand bytes at all → BytesAt bytes at entries
to_bytes bytes at all there h = record {
  all = all;
  all_are = there;
  stand = ap (take (length bytes)) h.is
      ∙ ap (λ (n : ℕ). take n (naturals bytes ++ h.others)) (sym (length-map bytes pos))
      ∙ take-append_seam (naturals bytes) h.others;
}

-- an entry after so many
get_after : (all : List ℤ) (at i : ℕ) → slice_get all (at + i) ≡ slice_get (drop at all) i
get_after all zero i = ap (slice_get all) (zero-add i)
get_after [] (suc at) i = refl
get_after (x ∷ all) (suc at) i =
    let one_more : suc at + i ≡ suc (at + i) = omega arith in
    ap (slice_get (x ∷ all)) one_more ∙ get_after all at i

-- the byte with which what is left begins
among : (bytes : List ℕ) (others : List ℤ) (i : ℕ) {x : ℕ} {rest : List ℕ}
    → drop i bytes ≡ x ∷ rest → slice_get (naturals bytes ++ others) i ≡ Some (pos x)
among [] others zero h = cc
among [] others (suc i) h = cc
among (b ∷ bytes) others zero h = ap (λ (xs : List ℕ). slice_get (naturals xs) 0) h
among (b ∷ bytes) others (suc i) h = among bytes others i h

pub byte_there : {bytes : List ℕ} {at : ℕ} {all : List ℤ} → BytesStand bytes at all → (i : ℕ) {x : ℕ}
    {rest : List ℕ} → drop i bytes ≡ x ∷ rest → slice_get all (at + i) ≡ Some (pos x)
byte_there {bytes} {at} {all} h i left = get_after all at i
    ∙ ap (λ (xs : List ℤ). slice_get xs i) h.is ∙ among bytes h.others i left

-- ---- parts

-- the bytes after the first so many
pub stands_after : (bytes : List ℕ) (at k : ℕ) (all : List ℤ) → k ≤ length bytes
    → BytesStand bytes at all → BytesStand (drop k bytes) (at + k) all
stands_after bytes at k all few h = record {
  others = h.others;
  is = sym (drop-drop k at all) ∙ ap (drop k) h.is ∙ after bytes k few;
} where
  after : (bytes : List ℕ) (k : ℕ) → k ≤ length bytes
      → drop k (naturals bytes ++ h.others) ≡ naturals (drop k bytes) ++ h.others
  after bytes zero few = refl
  after [] (suc k) few = absurd (omega (arith, few))
  after (b ∷ bytes) (suc k) few = after bytes k (omega (arith, few))

-- the first so many
pub stands_first : (bytes : List ℕ) (at n : ℕ) (all : List ℤ) → BytesStand bytes at all
    → BytesStand (take n bytes) at all
stands_first bytes at n all h = record {
  others = naturals (drop n bytes) ++ h.others;
  is = h.is ∙ ap (λ (xs : List ℕ). naturals xs ++ h.others) (sym (take-append-drop n bytes))
      ∙ ap (λ (xs : List ℤ). xs ++ h.others) (map-append pos (take n bytes) (drop n bytes))
      ∙ append_assoc (naturals (take n bytes)) (naturals (drop n bytes)) h.others;
}

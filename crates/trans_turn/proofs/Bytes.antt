-- The bytes of a word of a line, among the entries of the buffer.
use Rattle.std.proofs.Common.{◌≡◌, ◌∙◌, arith, ℕ, zero, suc, ◌+◌, ◌<◌, ℤ, pos, Bool, true, List, [], ◌∷◌, take, drop, length, slice_get, Some, option_map, unwrap_or, sym, ap, subst}
use Rattle.std.specs.List.{list_all}
use Rattle.std.proofs.lemmas.Bool.{and_parts}
use Rattle.std.proofs.lemmas.Option.{slice_get-map}
use Rattle.adv_io.specs.TypedLine.{is_line_byte, IsTyped}
use Rattle.trans_specs.specs.Views.{naturals}

-- ---- elements of a part of a list

-- one of the first n
taken : {X : Type 0} (n : ℕ) (xs : List X) (j : ℕ) {x : X} → slice_get (take n xs) j ≡ Some x
    → slice_get xs j ≡ Some x
taken zero xs zero h = cc
taken zero xs (suc j) h = cc
taken (suc n) [] zero h = cc
taken (suc n) [] (suc j) h = cc
taken (suc n) (y ∷ ys) zero h = h
taken (suc n) (y ∷ ys) (suc j) h = taken n ys j h

-- one of those from a place on
shifted : {X : Type 0} (at : ℕ) (xs : List X) (j : ℕ) {x : X} → slice_get (drop at xs) j ≡ Some x
    → slice_get xs (at + j) ≡ Some x
shifted zero xs j {x} h =
    let is : j ≡ zero + j = omega arith in subst (λ n. slice_get xs n ≡ Some x) is h
shifted (suc at) [] zero h = cc
shifted (suc at) [] (suc j) h = cc
shifted (suc at) (y ∷ ys) j {x} h =
    let is : suc (at + j) ≡ suc at + j = omega arith in
    subst (λ n. slice_get (y ∷ ys) n ≡ Some x) is (shifted at ys j h)

-- an element of a list all of whose elements pass a test
passes : {X : Type 0} (test : X → Bool) (xs : List X) (j : ℕ) {x : X} → list_all test xs ≡ true
    → slice_get xs j ≡ Some x → test x ≡ true
passes test [] zero all h = cc
passes test [] (suc j) all h = cc
passes test (y ∷ ys) zero {x} all h = ap (λ o. unwrap_or (option_map test o) true) (sym h)
    ∙ (and_parts (test y) (list_all test ys) all).0
passes test (y ∷ ys) (suc j) all h =
    passes test ys j (and_parts (test y) (list_all test ys) all).1 h

-- a byte of a line is one
small_line_byte : (b : ℕ) → is_line_byte b ≡ true → b < 256
small_line_byte b h = grind (arith, h)

-- ---- a word of a line

-- the bytes of a word of a line that stands from entry 2 on
pub record WordThere (word : List ℕ) (at : ℕ) (entries : List ℤ) : Type 0 where
  pub there : (j b : ℕ) → slice_get word j ≡ Some b → slice_get entries (at + j) ≡ Some (pos b)
  pub small : (j b : ℕ) → slice_get word j ≡ Some b → b < 256

-- the bytes of a word of a typed line are entries of the buffer, from two after its start on
pub word_there : (line : List ℕ) (start size : ℕ) (entries : List ℤ) → IsTyped line
    → take (length line) (drop 2 entries) ≡ naturals line
    → WordThere (take size (drop start line)) (start + 2) entries
word_there line start size entries typed stands = record {
  there = λ j b h. let at : slice_get entries (2 + (start + j)) ≡ Some (pos b) =
      shifted 2 entries (start + j) (taken (length line) (drop 2 entries) (start + j)
      (ap (λ zs. slice_get zs (start + j)) stands ∙ slice_get-map pos line (start + j)
      ∙ ap (option_map pos) (in_line j b h))) in
      let is : 2 + (start + j) ≡ start + 2 + j = omega arith in
      subst (λ n. slice_get entries n ≡ Some (pos b)) is at;
  small = λ j b h. small_line_byte b (passes is_line_byte line (start + j) typed.lower
      (in_line j b h));
} where
  in_line : (j b : ℕ) → slice_get (take size (drop start line)) j ≡ Some b
      → slice_get line (start + j) ≡ Some b
  in_line j b h = shifted start line j (taken size (drop start line) j h)

-- One more text, field or value is read.
use Rattle.std.proofs.Common.{◌≡◌, ◌≢◌, ◌∙◌, ℕ, suc, ◌+◌, ◌-◌, ◌<◌, ◌≤◌, List, [], ◌∷◌, ◌++◌, Option, Some, None, length, take, ℤ, refl, sym, ap, append_assoc, arith}
use Rattle.std.specs.Prelude.{MatchOption, slice_set}
use Rattle.std.proofs.lemmas.List.{append-nil}
use Rattle.std.proofs.lemmas.Grind.{common_steps}
use Rattle.adv_io.specs.Text.{newline}
use Rattle.adv_position.specs.Reading.{Read, onto, onto_text, after_text, ended, number_in, field_in, fields_in, numbers_in}
use Rattle.adv_position.proofs.Pieces.{after_text-sound, after_text-complete}

-- ---- texts

no_text : (o : Option (List ℕ)) (text bytes : List ℕ) → after_text text bytes ≡ o
    → ((rest : List ℕ) → bytes ≢ text ++ rest) → after_text text bytes ≡ None
no_text None text bytes is none = is
no_text (Some rest) text bytes is none = absurd (none rest (after_text-sound text bytes rest is))

pub not-stripped : (text bytes : List ℕ) → ((rest : List ℕ) → bytes ≢ text ++ rest)
    → after_text text bytes ≡ None
not-stripped text bytes none = no_text (after_text text bytes) text bytes refl none

pub stripped : (text bytes rest : List ℕ) → bytes ≡ text ++ rest → after_text text bytes ≡ Some rest
stripped text bytes rest is = rw is (after_text-complete text rest)

pub onto_text-none : {X : Type 0} (text bytes : List ℕ) (next : List ℕ → Read X)
    → after_text text bytes ≡ None → onto_text text bytes next ≡ None
onto_text-none text bytes next none = rw none refl

pub onto_text-is : {X : Type 0} (text bytes rest : List ℕ) (next : List ℕ → Read X)
    → after_text text bytes ≡ Some rest → onto_text text bytes next ≡ next rest
onto_text-is text bytes rest next is = rw is refl

-- ---- fields

module _ {X : Type 0} (of : ℤ → X) (label : List ℕ) (least most : ℤ) (bytes : List ℕ) where
  pub field-no_label : after_text label bytes ≡ None → field_in of label least most bytes ≡ None
  unfolding field_in
  field-no_label none = onto_text-none label bytes
      (λ r. onto (number_in least most r) (λ z after. Some (of z, after))) none

  pub field-no_number : (rest : List ℕ) → after_text label bytes ≡ Some rest
      → number_in least most rest ≡ None → field_in of label least most bytes ≡ None
  unfolding field_in
  field-no_number rest is none = onto_text-is label bytes rest
      (λ r. onto (number_in least most r) (λ z after. Some (of z, after))) is ∙ rw none refl

  pub field-some : (rest : List ℕ) (z : ℤ) (after : List ℕ) → after_text label bytes ≡ Some rest
      → number_in least most rest ≡ Some (z, after) → field_in of label least most bytes
      ≡ Some (of z, after)
  unfolding field_in
  field-some rest z after is read = onto_text-is label bytes rest
      (λ r. onto (number_in least most r) (λ y end. Some (of y, end))) is ∙ rw read refl

-- ---- values, one after the other

-- values that were read, and those that are read after them
abbrev pub ahead : {X : Type 0} → List X → Read (List X) → Read (List X)
ahead xs more = onto more (λ ys rest. Some (xs ++ ys, rest))

module _ {X : Type 0} (of : ℤ → X) (least most : ℤ) where
  ahead-none : (more : Read (List X)) → more ≡ ahead [] more
  ahead-none None = refl
  ahead-none (Some read) = refl

  pub fields-first : (n : ℕ) (values : List X) (bytes : List ℕ) → fields_in of least most n bytes
      ≡ ahead (take 0 values) (fields_in of least most (n - 0) bytes)
  fields-first n values bytes =
      let e : n - 0 ≡ n = omega arith in
      rw e (ahead-none (fields_in of least most n bytes))

  pub fields-stop : (xs : List X) (n i : ℕ) (bytes : List ℕ) → i < n
      → field_in of [] least most bytes ≡ None → ahead xs (fields_in of least most (n - i) bytes)
      ≡ None
  fields-stop xs n i bytes below none =
      let e : n - i ≡ suc (n - (i + 1)) = omega arith in
      rw (e, none) refl

  one-more : (xs : List X) (x : X) (more : Read (List X))
      → ahead xs (onto more (λ ys rest. Some (x ∷ ys, rest))) ≡ ahead (xs ++ x ∷ []) more
  one-more xs x None = refl
  one-more xs x (Some read) = ap (λ ys. Some (ys, read.1)) (sym (append_assoc xs (x ∷ []) read.0))

  -- a value that is read is set after those before it, and one less is due after it
  pub fields-more : (values : List X) (n i : ℕ) (bytes : List ℕ) (x : X) (after : List ℕ) → i < n
      → length values ≡ n → field_in of [] least most bytes ≡ Some (x, after)
      → ahead (take i values) (fields_in of least most (n - i) bytes)
      ≡ ahead (take (i + 1) (slice_set values i x))
      (fields_in of least most (n - (i + 1)) after)
  fields-more values n i bytes x after below count is =
      let e : n - i ≡ suc (n - (i + 1)) = omega arith in
      let there : i < length values = omega arith in
      let front : take (i + 1) (slice_set values i x) ≡ take i values
      ++ x ∷ [] = grind (arith, common_steps) in
      rw (e, is, front) (one-more (take i values) x (fields_in of least most (n - (i + 1)) after))

  pub fields-last : (values : List X) (n i : ℕ) (bytes : List ℕ) → n ≤ i → length values ≡ n
      → ahead (take i values) (fields_in of least most (n - i) bytes) ≡ Some (values, bytes)
  fields-last values n i bytes done count =
      let e : n - i ≡ 0 = omega arith in
      let all : take i values ≡ values = grind (arith, common_steps) in
      rw (e, all) (ap (λ xs. Some (xs, bytes)) (append-nil values))

-- ---- lines of numbers

module _ {X : Type 0} (of : ℤ → X) (label : List ℕ) (least most : ℤ) (n : ℕ) (bytes : List ℕ) where
  pub numbers-no_label : after_text label bytes ≡ None → numbers_in of label least most n bytes
      ≡ None
  unfolding numbers_in
  numbers-no_label none = onto_text-none label bytes (λ r. onto (fields_in of least most n r) ended)
      none

  pub numbers-no_fields : (rest : List ℕ) → after_text label bytes ≡ Some rest
      → fields_in of least most n rest ≡ None → numbers_in of label least most n bytes ≡ None
  unfolding numbers_in
  numbers-no_fields rest is none = onto_text-is label bytes rest
      (λ r. onto (fields_in of least most n r) ended) is ∙ rw none refl

  numbers-ended : (rest : List ℕ) (xs : List X) (after : List ℕ) → after_text label bytes
      ≡ Some rest → fields_in of least most n rest ≡ Some (xs, after)
      → numbers_in of label least most n bytes ≡ ended xs after
  unfolding numbers_in
  numbers-ended rest xs after is read = onto_text-is label bytes rest
      (λ r. onto (fields_in of least most n r) ended) is ∙ rw read refl

  pub numbers-end : {T : Type 0} (r : Option T) (rest : List ℕ) (xs : List X) (after left : List ℕ)
      → after_text label bytes ≡ Some rest → fields_in of least most n rest ≡ Some (xs, after)
      → MatchOption r (after_text (newline ∷ []) after ≡ None) (λ _. after_text (newline ∷ []) after
      ≡ Some left)
      → MatchOption r (numbers_in of label least most n bytes ≡ None)
      (λ _. numbers_in of label least most n bytes ≡ Some (xs, left))
  numbers-end None rest xs after left is read end = numbers-ended rest xs after is read
      ∙ onto_text-none (newline ∷ []) after (λ r. Some (xs, r)) end
  numbers-end (Some t) rest xs after left is read end = numbers-ended rest xs after is read
      ∙ onto_text-is (newline ∷ []) after left (λ r. Some (xs, r)) end

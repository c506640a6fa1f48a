-- Texts and numbers are read exactly where they stand.
use Rattle.std.proofs.Common.{◌≡◌, ◌∙◌, ℕ, zero, suc, Bool, true, false, cond, eqb, List, [], ◌∷◌, ◌++◌, Option, Some, None, Ok, Err, map, length, ℤ, refl, sym, ap, append_assoc}
use Rattle.std.specs.Prelude.{IsTrue, option_and_then, Result}
use Rattle.std.specs.List.{list_all}
use Rattle.std.proofs.lemmas.Bool.{eqb-true, eq-eqb, and_parts, and_from}
use Rattle.adv_io.specs.Text.{newline, space}
use Rattle.adv_text.specs.Reading.{Input, input, Fault, number_at}
use Rattle.adv_text.specs.Writing.{number_text}
use Rattle.adv_text.specs.Spelling.{NoDigit}
use Rattle.adv_text.specs.Laws.{Fits32, SpelledNumberIsRead, WrittenNumberIsSpelled}
use Rattle.adv_position.specs.Numbers.{is_within}
use Rattle.adv_position.specs.Text.{labelled, spaced, numbers_line}
use Rattle.adv_position.specs.Reading.{Read, onto, onto_text, after_text, ended, exact, number_in, field_in, fields_in, numbers_in}

-- ---- one after the other

pub onto-some : {X Y : Type 0} (o : Read X) (next : X → List ℕ → Read Y) (y : Y) (rest : List ℕ)
    → onto o next ≡ Some (y, rest)
    → (x : X) × (after : List ℕ) × (o ≡ Some (x, after)) × (next x after ≡ Some (y, rest))
onto-some None next y rest e = absurd (cc)
onto-some (Some read) next y rest e = (read.0, read.1, refl, e)

pub and_then-some : {X Y : Type 0} (o : Option X) (next : X → Option Y) (y : Y)
    → option_and_then next o ≡ Some y
    → (x : X) × (o ≡ Some x) × (next x ≡ Some y)
and_then-some None next y e = absurd (cc)
and_then-some (Some x) next y e = (x, refl, e)

-- ---- texts

-- the parts of a value and the bytes after it
some-inj : {X : Type 0} (p q : X) → Some p ≡ Some q → p ≡ q
some-inj p q e = cc

pub read-same : {X : Type 0} (x y : X) (after rest : List ℕ) → ◌≡◌ {A = Read X} (Some (x, after))
    (Some (y, rest)) → (x ≡ y) × (after ≡ rest)
read-same {X = X} x y after rest e =
    let same : ◌≡◌ {A = X × List ℕ} (x, after) (y, rest) = some-inj {X = X × List ℕ} (x, after)
    (y, rest) e in
    (ap (λ p. p.0) same, ap (λ p. p.1) same)

-- the same value has the same text
pub same-text : {X : Type 0} (f : X → List ℕ) (x y : X) (after rest : List ℕ) → x ≡ y → after ≡ rest
    → f x ++ after ≡ f y ++ rest
same-text f x y after rest p q = cc

-- numbers that stand for themselves
pub map-same : (zs : List ℤ) → map (λ z. z) zs ≡ zs
map-same [] = refl
map-same (z ∷ zs) = ap (λ more. z ∷ more) (map-same zs)

head-then : (q : Bool) (t b : ℕ) (text bytes rest : List ℕ) → eqb t b ≡ q
    → (after_text text bytes ≡ Some rest → bytes ≡ text ++ rest)
    → cond q (after_text text bytes) None ≡ Some rest → b ∷ bytes ≡ (t ∷ text) ++ rest
head-then true t b text bytes rest same more e = let head = eqb-true t b same in let tail : bytes
    ≡ text ++ rest = more e in cc
head-then false t b text bytes rest other more e = absurd (cc)

pub after_text-sound : (text bytes rest : List ℕ) → after_text text bytes ≡ Some rest → bytes ≡ text
    ++ rest
after_text-sound [] bytes rest e = cc
after_text-sound (t ∷ text) [] rest e = absurd (cc)
after_text-sound (t ∷ text) (b ∷ bytes) rest e = head-then (eqb t b) t b text bytes rest refl
    (after_text-sound text bytes rest) e

pub after_text-complete : (text rest : List ℕ) → after_text text (text ++ rest) ≡ Some rest
after_text-complete [] rest = refl
after_text-complete (t ∷ text) rest = rw (eq-eqb t t refl) (after_text-complete text rest)

pub onto_text-some : {Y : Type 0} (text bytes : List ℕ) (next : List ℕ → Read Y) (y : Y)
    (rest : List ℕ) → onto_text text bytes next ≡ Some (y, rest)
    → (after : List ℕ) × (bytes ≡ text ++ after) × (next after ≡ Some (y, rest))
onto_text-some text bytes next y rest e =
    let found = and_then-some (after_text text bytes) next (y, rest) e in
    (found.0, after_text-sound text bytes found.0 found.1, found.2)

pub onto_text-on : {Y : Type 0} (text rest : List ℕ) (next : List ℕ → Read Y)
    → onto_text text (text ++ rest) next ≡ next rest
onto_text-on text rest next = rw (after_text-complete text rest) refl

pub ended-some : {X : Type 0} (x y : X) (bytes rest : List ℕ) → ended x bytes ≡ Some (y, rest)
    → (x ≡ y) × (bytes ≡ newline ∷ rest)
ended-some x y bytes rest e =
    let found = onto_text-some (newline ∷ []) bytes (λ r. Some (x, r)) y rest e in
    let last = read-same x y found.0 rest found.2 in
    (last.0, found.1 ∙ ap (λ r. newline ∷ r) last.1)

-- ---- numbers

module _ (spelled : SpelledNumberIsRead) (written : WrittenNumberIsSpelled) (least most : ℤ) where
  -- a number that is accepted is within its limits, and stands there in its one spelling
  exact-some : (digits : List ℕ) (found : Result (ℤ × Input) Fault) (z : ℤ) (rest : List ℕ)
      → exact least most digits found ≡ Some (z, rest)
      → IsTrue (is_within least most z) × (digits ≡ number_text z ++ rest)
  exact-some digits (Err fault) z rest e = absurd (cc)
  exact-some digits (Ok read) z rest e = within (is_within least most read.0) refl e
    where
      within : (q : Bool) → is_within least most read.0 ≡ q
          → cond q (onto_text (number_text read.0) digits (λ r. Some (read.0, r))) None
          ≡ Some (z, rest)
          → IsTrue (is_within least most z) × (digits ≡ number_text z ++ rest)
      within false other e = absurd (cc)
      within true there e =
          let found = onto_text-some (number_text read.0) digits (λ r. Some (read.0, r)) z rest e in
          let last = read-same read.0 z found.0 rest found.2 in (
            ap (is_within least most) (sym last.0) ∙ there,
            found.1 ∙ same-text number_text read.0 z
                found.0 rest last.0 last.1,
          )

  number-sound : (bytes : List ℕ) (z : ℤ) (rest : List ℕ) → number_in least most bytes
      ≡ Some (z, rest)
      → IsTrue (is_within least most z) × (bytes ≡ labelled [] z ++ rest)
  number-sound bytes z rest e =
      let found = onto_text-some (space ∷ []) bytes
      (λ digits. exact least most digits (number_at (input 0 digits))) z rest e in
      let last = exact-some found.0 (number_at (input 0 found.0)) z rest found.2 in
      (last.0, found.1 ∙ ap (λ d. space ∷ d) last.1)

  number-complete : (z : ℤ) (rest : List ℕ) → IsTrue (is_within least most z) → Fits32 z
      → NoDigit rest
      → number_in least most (labelled [] z ++ rest) ≡ Some (z, rest)
  number-complete z rest there fits no_digit =
      let read = spelled (input 0 (number_text z ++ rest)) z rest (written z rest fits no_digit) in
      rw (read.2, there) (onto_text-on (number_text z) rest (λ r. Some (z, r)))

-- ---- values

-- what a value's number is, and which value a number stands for
pub record Stands {X : Type 0} (of : ℤ → X) (num : X → ℤ) (least most : ℤ) : Type 0 where
  pub number : (z : ℤ) → IsTrue (is_within least most z) → num (of z) ≡ z
  pub value : (x : X) → of (num x) ≡ x
  pub fits : (z : ℤ) → IsTrue (is_within least most z) → Fits32 z

-- the numbers of these values lie from the least to the most
abbrev pub are_within : {X : Type 0} → (X → ℤ) → ℤ → ℤ → List X → Bool
are_within num least most xs = list_all (λ x. is_within least most (num x)) xs

module _ (spelled : SpelledNumberIsRead) (written : WrittenNumberIsSpelled) {X : Type 0}
    (of : ℤ → X) (num : X → ℤ) (least most : ℤ) (stands : Stands of num least most) where
  -- a value that is read after a label is within its limits, and both stand there so
  pub field-sound : (label bytes : List ℕ) (x : X) (rest : List ℕ)
      → field_in of label least most bytes ≡ Some (x, rest)
      → IsTrue (is_within least most (num x)) × (bytes ≡ labelled label (num x) ++ rest)
  unfolding field_in
  field-sound label bytes x rest e =
      let found = onto_text-some label bytes
      (λ r. onto (number_in least most r) (λ z after. Some (of z, after))) x rest e in
      let read = onto-some (number_in least most found.0) (λ z after. Some (of z, after)) x rest
      found.2 in
      let number = number-sound spelled written least most found.0 read.0 read.1 read.2 in
      let last = read-same (of read.0) x read.1 rest read.3 in
      let as_is : num x ≡ read.0 = ap num (sym last.0) ∙ stands.number read.0 number.0 in (
        rw as_is number.0,
        found.1 ∙ ap (λ d. label ++ d) (number.1 ∙ rw (as_is, last.1) refl)
            ∙ sym (append_assoc label (labelled [] (num x)) rest),
      )

  pub field-complete : (label : List ℕ) (x : X) (rest : List ℕ)
      → IsTrue (is_within least most (num x)) → NoDigit rest
      → field_in of label least most (labelled label (num x) ++ rest) ≡ Some (x, rest)
  unfolding field_in
  field-complete label x rest there no_digit =
      rw (append_assoc label (labelled [] (num x)) rest)
      (onto_text-on label (labelled [] (num x) ++ rest)
      (λ r. onto (number_in least most r) (λ z after. Some (of z, after)))
      ∙ rw (number-complete spelled written least most (num x) rest there
      (stands.fits (num x) there) no_digit) (ap (λ y. Some (y, rest)) (stands.value x)))

  -- a field and what follows it
  pub field-from : {Y : Type 0} (label bytes : List ℕ) (next : X → List ℕ → Read Y) (y : Y)
      (rest : List ℕ) → onto (field_in of label least most bytes) next ≡ Some (y, rest)
      → (x : X) × (after : List ℕ) × IsTrue (is_within least most (num x))
      × (bytes ≡ labelled label (num x) ++ after) × (next x after ≡ Some (y, rest))
  field-from label bytes next y rest e =
      let read = onto-some (field_in of label least most bytes) next y rest e in
      let field = field-sound label bytes read.0 read.1 read.2 in
      (read.0, read.1, field.0, field.1, read.3)

  pub field-then : {Y : Type 0} (label more rest : List ℕ) (next : X → List ℕ → Read Y) (x : X)
      → IsTrue (is_within least most (num x)) → NoDigit (more ++ rest)
      → onto (field_in of label least most ((labelled label (num x) ++ more) ++ rest)) next
      ≡ next x (more ++ rest)
  field-then label more rest next x there no_digit =
      rw (
        append_assoc (labelled label (num x)) more rest,
        field-complete label x (more ++ rest)
            there no_digit,
      ) refl

  -- the values that are read are as many as are due, within their limits, and stand there so
  fields-sound : (n : ℕ) (bytes : List ℕ) (xs : List X) (rest : List ℕ)
      → fields_in of least most n bytes ≡ Some (xs, rest)
      → (length xs ≡ n) × IsTrue (are_within num least most xs)
      × (bytes ≡ spaced (map num xs) ++ rest)
  fields-sound zero bytes xs rest e =
      let last = read-same {X = List X} [] xs bytes rest e in (
        ap length (sym last.0),
        ap (are_within num least most) (sym last.0),
        last.1
            ∙ ap (λ ys. spaced (map num ys) ++ rest) last.0,
      )
  fields-sound (suc n) bytes xs rest e =
      let first = onto-some (field_in of [] least most bytes)
      (λ x r. onto (fields_in of least most n r) (λ ys after. Some (x ∷ ys, after))) xs rest
      e in
      let more = onto-some (fields_in of least most n first.1)
      (λ ys after. Some (first.0 ∷ ys, after)) xs rest first.3 in
      let field = field-sound [] bytes first.0 first.1 first.2 in
      let fields = fields-sound n first.1 more.0 more.1 more.2 in
      let last = read-same (first.0 ∷ more.0) xs more.1 rest more.3 in (
        ap length (sym last.0) ∙ ap suc fields.0,
        ap (are_within num least most) (sym last.0) ∙ and_from _ _ field.0 fields.1,
        field.1 ∙ ap (λ r. labelled [] (num first.0) ++ r) fields.2
            ∙ sym (append_assoc (labelled [] (num first.0)) (spaced (map num more.0)) more.1)
            ∙ same-text (λ ys. spaced (map num ys)) (first.0 ∷ more.0) xs more.1 rest last.0 last.1,
      )

  no_digit_first : (xs : List X) (rest : List ℕ) → NoDigit rest
      → NoDigit (spaced (map num xs) ++ rest)
  no_digit_first [] rest h = h
  no_digit_first (x ∷ xs) rest h = refl

  -- values within their limits are read of what is written of them, where no digit follows
  fields-complete : (xs : List X) (rest : List ℕ) → IsTrue (are_within num least most xs)
      → NoDigit rest
      → fields_in of least most (length xs) (spaced (map num xs) ++ rest) ≡ Some (xs, rest)
  fields-complete [] rest there no_digit = refl
  fields-complete (x ∷ xs) rest there no_digit =
      let parts = and_parts (is_within least most (num x)) (are_within num least most xs) there in
      rw (
        append_assoc (labelled [] (num x)) (spaced (map num xs)) rest,
        field-complete [] x
            (spaced (map num xs) ++ rest) parts.0 (no_digit_first xs rest no_digit),
        fields-complete
            xs rest parts.1 no_digit,
      )
      refl

  -- a line that is read as so many values is the line of just these, within their limits
  pub numbers-sound : (label : List ℕ) (n : ℕ) (bytes : List ℕ) (xs : List X) (rest : List ℕ)
      → numbers_in of label least most n bytes ≡ Some (xs, rest)
      → (length xs ≡ n) × IsTrue (are_within num least most xs)
      × (bytes ≡ numbers_line label (map num xs) ++ rest)
  unfolding numbers_in
  numbers-sound label n bytes xs rest e =
      let found = onto_text-some label bytes (λ r. onto (fields_in of least most n r) ended) xs rest
      e in
      let read = onto-some (fields_in of least most n found.0) ended xs rest found.2 in
      let fields = fields-sound n found.0 read.0 read.1 read.2 in
      let last = ended-some read.0 xs read.1 rest read.3 in (
        ap length (sym last.0) ∙ fields.0,
        ap (are_within num least most) (sym last.0) ∙ fields.1,
        found.1 ∙ ap (λ d. label ++ d) (fields.2 ∙ same-text (λ ys. spaced (map num ys)) read.0 xs
            read.1 (newline ∷ rest) last.0 last.1
            ∙ sym (append_assoc (spaced (map num xs)) (newline ∷ []) rest))
            ∙ sym (append_assoc label (spaced (map num xs) ++ newline ∷ []) rest),
      )

  -- the line of so many values within their limits is read as these values
  pub numbers-complete : (label : List ℕ) (n : ℕ) (xs : List X) (rest : List ℕ) → length xs ≡ n
      → IsTrue (are_within num least most xs)
      → numbers_in of label least most n (numbers_line label (map num xs) ++ rest) ≡ Some (xs, rest)
  unfolding numbers_in
  numbers-complete label n xs rest count there =
      rw (
        append_assoc label (spaced (map num xs) ++ newline ∷ []) rest,
        append_assoc
            (spaced (map num xs)) (newline ∷ []) rest,
        ← count,
      )
      (onto_text-on label (spaced (map num xs) ++ newline ∷ rest)
      (λ r. onto (fields_in of least most (length xs) r) ended)
      ∙ rw (fields-complete xs (newline ∷ rest) there refl) refl)

-- A word and a noun have one class exactly where they match as they are typed.
use Rattle.std.proofs.Common.{◌≡◌, ◌∙◌, arith, ℕ, zero, suc, ◌+◌, ◌-◌, ◌<◌, ◌≤◌, Bool, true, false, not, ◌&&◌, cond, if◌then◌else◌, List, [], ◌∷◌, drop, length, slice_get, bytes_eq, Option, Some, None, unwrap_or, refl, sym, ap, subst}
use Rattle.std.specs.Prelude.{slice_index_or}
use Rattle.std.specs.List.{position_from}
use Rattle.std.proofs.lemmas.Bool.{and_parts}
use Rattle.std.proofs.lemmas.Slice.Eq.{bytes_eq-Decides}
use Rattle.scott_types.specs.declared.commands.Column.TheVariants.{Nouns}
use Rattle.scott_types.specs.Database.{Database}
use Rattle.scott_types.specs.ItemText.{is_starred}
use Rattle.scott_rules.specs.Words.{is_empty, is_typed, entries_of, root}
use Rattle.scott_vocab.specs.Keys.{letters}
use Rattle.trans_specs.specs.Tables.{or_zero, is_class, class_of, class_of_noun}
use Rattle.trans_specs.specs.Laws.{ClassesTell}

-- ---- the first that passes a test

module _ (t : List ℕ → Bool) where
  -- an entry of this number passes
  record IsHit (i : ℕ) (xs : List (List ℕ)) (j : ℕ) : Type 0 where
    at : ℕ
    entry : List ℕ
    there : slice_get xs at ≡ Some entry
    number : j ≡ i + at
    passes : t entry ≡ true

  -- where a position is found, the entry at it passes the test
  hit : (i : ℕ) (xs : List (List ℕ)) (j : ℕ) → position_from t i xs ≡ Some j → IsHit i xs j
  hit i [] j h = cc
  hit i (x ∷ xs) j h = from (t x) refl (hit (i + 1) xs j) h where
    from : (b : Bool) → t x ≡ b → (position_from t (i + 1) xs ≡ Some j → IsHit (i + 1) xs j)
        → cond b (Some i) (position_from t (i + 1) xs) ≡ Some j → IsHit i (x ∷ xs) j
    from true passes more h = record {
      at = 0;
      entry = x;
      there = refl;
      number = omega (arith, is);
      passes = passes;
    } where
      is : i ≡ j
      is = ap (λ (o : Option ℕ). unwrap_or o 0) h
    from false passes more h = later (more h) where
      later : IsHit (i + 1) xs j → IsHit i (x ∷ xs) j
      later r = record {
        at = suc r.at;
        entry = r.entry;
        there = r.there;
        number = omega (arith, r.number);
        passes = r.passes;
      }

  -- where an entry passes the test, the position that is found isn't 0
  some_hit : (i : ℕ) (xs : List (List ℕ)) (at : ℕ) (x : List ℕ) → 1 ≤ i
      → slice_get xs at ≡ Some x → t x ≡ true → 1 ≤ or_zero (position_from t i xs)
  some_hit i [] at x one there passes = cc
  some_hit i (y ∷ ys) zero x one there passes =
      subst (λ b. 1 ≤ or_zero (cond b (Some i) (position_from t (i + 1) ys))) (sym first) one where
        first : t y ≡ true
        first = ap (λ o. t (unwrap_or o [])) there ∙ passes
  some_hit i (y ∷ ys) (suc at) x one there passes = from (t y)
      (some_hit (i + 1) ys at x (omega arith) there passes) where
        from : (b : Bool) → 1 ≤ or_zero (position_from t (i + 1) ys)
            → 1 ≤ or_zero (cond b (Some i) (position_from t (i + 1) ys))
        from true more = one
        from false more = more

is_some_number : (o : Option ℕ) (n : ℕ) → or_zero o ≡ n → 1 ≤ n → o ≡ Some n
is_some_number None n h one = absurd (omega (arith, h, one))
is_some_number (Some m) n h one = ap Some h

same_entry : (xs : List (List ℕ)) (at : ℕ) (x y : List ℕ) → slice_get xs at ≡ Some x
    → slice_get xs at ≡ Some y → x ≡ y
same_entry xs at x y h k = ap (λ o. unwrap_or o []) (sym h ∙ k)

-- the entries after the first, by their numbers from 1 on
after_first : (xs : List (List ℕ)) (k : ℕ) → 1 ≤ k → k < length xs
    → slice_get (drop 1 xs) (k - 1) ≡ Some (slice_index_or xs k [])
after_first [] k one less = absurd (omega (arith, less))
after_first (x ∷ xs) zero one less = absurd (omega (arith, one))
after_first (x ∷ xs) (suc k) one less = subst
    (λ (m : ℕ). slice_get xs m ≡ Some (slice_index_or xs k [])) place
    (at xs k (omega (arith, less))) where
      place : k ≡ suc k - 1
      place = omega arith

      at : (xs : List (List ℕ)) (k : ℕ) → k < length xs
          → slice_get xs k ≡ Some (slice_index_or xs k [])
      at [] k less = absurd (omega (arith, less))
      at (x ∷ xs) zero less = refl
      at (x ∷ xs) (suc k) less = at xs k (omega (arith, less))

-- ---- classes

all_three : (a b c : Bool) → a ≡ true → b ≡ true → c ≡ true → a && (b && c) ≡ true
all_three a b c p q r = rw (p, q, r) refl

-- a word with the letters of one that isn't empty isn't empty
word_there : (size : ℕ) (word other : List ℕ) → 1 ≤ size → not (is_empty other) ≡ true
    → letters size word ≡ letters size other → not (is_empty word) ≡ true
word_there zero word other one h e = absurd (omega (arith, one))
word_there (suc n) [] [] one h e = h
word_there (suc n) [] (b ∷ other) one h e = cc
word_there (suc n) (b ∷ word) other one h e = refl

module _ (db : Database) (k : ℕ) (one : 1 ≤ k) (less : k < length (entries_of db Nouns))
    (named : is_class (root db k) ≡ true) (counts : 1 ≤ db.header.length) where
  abbrev size : ℕ
  size = db.header.length

  abbrev noun : List ℕ
  noun = root db k

  abbrev nouns : List (List ℕ)
  nouns = drop 1 (entries_of db Nouns)

  -- a noun that a word with these letters matches
  abbrev of_letters : List ℕ → List ℕ → Bool
  of_letters key entry =
      is_class entry && (not (is_empty entry) && bytes_eq (letters size entry) key)

  abbrev class_by : List ℕ → ℕ
  class_by key = or_zero (position_from (of_letters key) 1 nouns)

  own_class : class_of_noun db noun ≡ class_of db noun
  own_class = ap (λ (b : Bool). if b then class_of db noun else 0) named

  named_there : not (is_empty noun) ≡ true
  named_there = (and_parts (not (is_starred noun)) (not (is_empty noun)) named).1

  class_there : 1 ≤ class_of db noun
  class_there = some_hit (of_letters (letters size noun)) 1 nouns (k - 1) noun (omega arith)
      (after_first (entries_of db Nouns) k one less)
      (all_three (is_class noun) (not (is_empty noun))
      (bytes_eq (letters size noun) (letters size noun)) named named_there
      ((bytes_eq-Decides (letters size noun) (letters size noun)).1 refl))

  -- the letters of an entry that passes
  letters_are : (key entry : List ℕ) → of_letters key entry ≡ true → letters size entry ≡ key
  letters_are key entry h = (bytes_eq-Decides (letters size entry) key).0
      (and_parts (not (is_empty entry)) (bytes_eq (letters size entry) key)
      (and_parts (is_class entry) (not (is_empty entry) && bytes_eq (letters size entry) key)
      h).1).1

  -- a word that has the class of the noun has the noun's letters
  same_letters : (word : List ℕ) → class_of db word ≡ class_of db noun
      → letters size word ≡ letters size noun
  same_letters word e = sym (letters_are (letters size word) hw.entry hw.passes)
      ∙ ap (letters size) (sym (same_entry nouns hw.at hr.entry hw.entry
      (subst (λ (at : ℕ). slice_get nouns at ≡ Some hr.entry) same hr.there) hw.there))
      ∙ letters_are (letters size noun) hr.entry hr.passes where
        hr : IsHit (of_letters (letters size noun)) 1 nouns (class_of db noun)
        hr = hit (of_letters (letters size noun)) 1 nouns (class_of db noun) (is_some_number
            (position_from (of_letters (letters size noun)) 1 nouns) (class_of db noun) refl
            class_there)

        hw : IsHit (of_letters (letters size word)) 1 nouns (class_of db noun)
        hw = hit (of_letters (letters size word)) 1 nouns (class_of db noun) (is_some_number
            (position_from (of_letters (letters size word)) 1 nouns) (class_of db noun) e
            class_there)

        same : hr.at ≡ hw.at
        same = omega (arith, hr.number, hw.number)

  matches_by_class : (word : List ℕ) → class_of db word ≡ class_of_noun db noun
      → is_typed size word noun ≡ true
  matches_by_class word g = both (not (is_empty word))
      (bytes_eq (letters size word) (letters size noun))
      (word_there size word noun counts named_there e)
      ((bytes_eq-Decides (letters size word) (letters size noun)).1 e) where
        e : letters size word ≡ letters size noun
        e = same_letters word (g ∙ own_class)

        both : (a b : Bool) → a ≡ true → b ≡ true → a && b ≡ true
        both a b p q = rw (p, q) refl

  class_by_match : (word : List ℕ) → is_typed size word noun ≡ true
      → class_of db word ≡ class_of_noun db noun
  class_by_match word h = ap class_by ((bytes_eq-Decides (letters size word)
      (letters size noun)).0 (and_parts (not (is_empty word))
      (bytes_eq (letters size word) (letters size noun)) h).1)
      ∙ sym own_class

pub classes_tell : ClassesTell
classes_tell db k word limits one less named = (
  matches_by_class db k one less named limits.header.length_range.0 word,
  class_by_match db k one less named limits.header.length_range.0 word,
)

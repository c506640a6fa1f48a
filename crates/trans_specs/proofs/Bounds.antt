-- The entries of the tables are small.
use Rattle.std.proofs.Common.{◌≡◌, arith, ℕ, ◌+◌, ◌-◌, ◌<◌, ◌≤◌, Bool, true, false, ◌&&◌, if◌then◌else◌, List, [], ◌∷◌, ◌++◌, map, length, replicate, zero, suc, flat_map, Option, Some, None, refl}
use Rattle.std.specs.Prelude.{is_some}
use Rattle.std.specs.List.{AllByRecursion, list_all, position_from}
use Rattle.std.specs.Char.{is_ascii_graphic}
use Rattle.std.proofs.lemmas.Bool.{and_parts}
use Rattle.scott_types.specs.declared.commands.Column.{Column}
use Rattle.scott_types.specs.Database.{Database}
use Rattle.scott_types.specs.ItemText.{is_starred}
use Rattle.scott_rules.specs.Words.{is_typed, spelling, entries_of, entry_from}
use Rattle.scott_vocab.specs.Keys.{letters}
use Rattle.trans_specs.specs.Tables.{bit, or_zero, guarded, filled_up, printed_letters, entry_letters, word_letters, bases_from, bases}

-- each of these is below a number
abbrev pub Below : ℕ → List ℕ → Type 0
Below m xs = AllByRecursion (λ n. n < m) xs

module _ (m : ℕ) (some : 2 ≤ m) where
  below_both : (xs ys : List ℕ) → Below m xs → Below m ys → Below m (xs ++ ys)
  below_both [] ys h k = k
  below_both (x ∷ xs) ys h k = (h.0, below_both xs ys h.1 k)

  pub below_guarded : (xs : List ℕ) → Below m xs → Below m (guarded xs)
  below_guarded xs h = below_both xs (0 ∷ []) h (omega (arith, some), tt)

  pub below_map : {X : Type 0} (f : X → ℕ) → ((x : X) → f x < m) → (xs : List X)
      → Below m (map f xs)
  below_map f each [] = tt
  below_map f each (x ∷ xs) = (each x, below_map f each xs)

  pub below_flat : {X : Type 0} (f : X → List ℕ) → ((x : X) → Below m (f x)) → (xs : List X)
      → Below m (flat_map f xs)
  below_flat f each [] = tt
  below_flat f each (x ∷ xs) = below_both (f x) (flat_map f xs) (each x) (below_flat f each xs)

  below_zeros : (n : ℕ) → Below m (replicate n 0)
  below_zeros zero = tt
  below_zeros (suc n) = (omega (arith, some), below_zeros n)

  -- a list that passes a test by which a number is below
  pub below_tested : (p : ℕ → Bool) → ((n : ℕ) → p n ≡ true → n < m) → (xs : List ℕ)
      → list_all p xs ≡ true → Below m xs
  below_tested p each [] h = tt
  below_tested p each (x ∷ xs) h = (
    each x (and_parts (p x) (list_all p xs) h).0,
    below_tested p each xs (and_parts (p x) (list_all p xs) h).1,
  )

  pub below_bit : (b : Bool) → bit b < m
  below_bit true = omega (arith, some)
  below_bit false = omega (arith, some)

  -- a number that is there, or 0
  pub below_choice : (b : Bool) (n : ℕ) → (b ≡ true → n < m) → (if b then n else 0) < m
  below_choice true n h = h refl
  below_choice false n h = omega (arith, some)

  -- ---- base entries

  -- the base entries are below a bound, where the entries' numbers and the base before them are
  pub below_bases_from : (base : Option ℕ) (k : ℕ) (entries : List (List ℕ))
      → k + length entries ≤ m → or_zero base < m → Below m (bases_from base k entries)
  below_bases_from base k [] fits h = tt
  below_bases_from base k (entry ∷ entries) fits h = from (is_starred entry)
      (λ o less. below_bases_from o (k + 1) entries (omega (arith, fits)) less) where
        from : (b : Bool) → ((o : Option ℕ) → or_zero o < m
            → Below m (bases_from o (k + 1) entries))
            → Below m (or_zero (if b then base else Some k)
            ∷ bases_from (if b then base else Some k) (k + 1) entries)
        from true more = (h, more base h)
        from false more = (omega (arith, fits), more (Some k) (omega (arith, fits)))

  pub below_bases : (entries : List (List ℕ)) → length entries ≤ m → Below m (bases entries)
  below_bases [] fits = tt
  below_bases (entry ∷ entries) fits = (
    omega (arith, some),
    below_bases_from None 1 entries (omega (arith, fits)) (omega (arith, some)),
  )

  -- ---- what is found among entries

  pub below_position : {X : Type 0} (t : X → Bool) (i : ℕ) (xs : List X) → i + length xs ≤ m
      → or_zero (position_from t i xs) < m
  below_position t i [] fits = omega (arith, some)
  below_position t i (x ∷ xs) fits = from (t x) (below_position t (i + 1) xs (omega (arith, fits)))
    where
      from : (b : Bool) → or_zero (position_from t (i + 1) xs) < m
          → or_zero (if b then Some i else position_from t (i + 1) xs) < m
      from true more = omega (arith, fits)
      from false more = more

  -- the entry that a word names, or 0, is below a bound, where the entries' numbers and the base
  -- before them are
  pub below_entry : (size : ℕ) (word : List ℕ) (base : Option ℕ) (k : ℕ)
      (entries : List (List ℕ)) → k + length entries ≤ m → or_zero base < m
      → or_zero (entry_from size word base k entries) < m
  below_entry size word base k [] fits h = omega (arith, some)
  below_entry size word base k (entry ∷ entries) fits h = from (is_starred entry)
      (λ o less. below_entry size word o (k + 1) entries (omega (arith, fits)) less) where
        or_later : (o : Option ℕ) (b : Bool) → or_zero o < m
            → or_zero (entry_from size word o (k + 1) entries) < m
            → or_zero (if b then o else entry_from size word o (k + 1) entries) < m
        or_later o true less more = less
        or_later o false less more = more

        from : (b : Bool) → ((o : Option ℕ) → or_zero o < m
            → or_zero (entry_from size word o (k + 1) entries) < m)
            → let nearest = if b then base else Some k in
            or_zero (if is_typed size (spelling entry) word && is_some nearest then nearest
            else entry_from size word nearest (k + 1) entries) < m
        from true more = or_later base (is_typed size (spelling entry) word && is_some base) h
            (more base h)
        from false more = or_later (Some k) (is_typed size (spelling entry) word && true)
            (omega (arith, fits)) (more (Some k) (omega (arith, fits)))

-- ---- letters

graphic_below : (n : ℕ) → is_ascii_graphic n ≡ true → n < 256
graphic_below n h = grind arith

below_letters : (size : ℕ) (word : List ℕ) → Below 256 (printed_letters size word)
below_letters size word = from (list_all is_ascii_graphic word) refl where
  from : (b : Bool) → list_all is_ascii_graphic word ≡ b
      → Below 256 (if b then filled_up size word else replicate size 0)
  from true h = below_both 256 (omega arith) word (replicate (size - length word) 0)
      (below_tested 256 (omega arith) is_ascii_graphic graphic_below word h)
      (below_zeros 256 (omega arith) (size - length word))
  from false h = below_zeros 256 (omega arith) size

pub below_word_letters : (db : Database) (column : Column) → Below 256 (word_letters db column)
below_word_letters db column = below_guarded 256 (omega arith) _
    (below_flat 256 (omega arith) (entry_letters db.header.length)
    (λ entry. below_letters db.header.length (letters db.header.length (spelling entry)))
    (entries_of db column))

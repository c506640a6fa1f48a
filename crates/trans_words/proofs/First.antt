-- The base entry that a first word names, which may be a letter.
use Rattle.std.proofs.Common.{◌≡◌, ◌∙◌, arith, ℕ, suc, ◌+◌, ◌<◌, pos, nat_eq, Bool, true, false, ◌&&◌, if◌then◌else◌, List, [], ◌∷◌, length, drop, slice_get, codes, Some, None, bytes_eq, inl, inr, ◌⊎◌, refl, sym, ap, subst}
use Rattle.std.proofs.Math.Bool.{and-false}
use Rattle.std.proofs.lemmas.List.{length-map}
use Rattle.inform_tree.specs.declared.conditions.Relation.TheVariants.{Eq}
use Rattle.inform_tree.specs.Values as v
use Rattle.inform_tree.specs.Conditions as c
use Rattle.inform_tree.specs.Statements as s
use Rattle.inform_tree.specs.Statements.{Cases}
use Rattle.inform_meaning.specs.Worlds.{Program, Scope}
use Rattle.inform_meaning.specs.Frames.{Normal, Returns}
use Rattle.inform_logic.specs.Stages.{Stage}
use Rattle.inform_logic.specs.Leading.{Leads, TheCases, Evaluates, Tests, Runs, Does, by_return}
use Rattle.inform_logic.proofs.Words.{small_number, eq_is}
use Rattle.inform_logic.proofs.Values.{within, valued, number, local, entry, argument, called, call}
use Rattle.inform_logic.proofs.Conditions.{compare}
use Rattle.inform_logic.proofs.Choices.{one_number}
use Rattle.inform_logic.proofs.Statements.{end, next, returns, return, if_true, if_false, switch, this_case, later_case, no_default}
use Rattle.inform_logic.proofs.Routines.{does_within, routine}
use Rattle.scott_types.specs.declared.commands.Column.{Column}
use Rattle.scott_types.specs.Database.{Database}
use Rattle.scott_types.specs.Limits.{KeepsLimits}
use Rattle.scott_rules.specs.Words.{column_of, entries_of, which}
use Rattle.scott_rules.specs.Commands.{whole_word}
use Rattle.trans_specs.specs.Tables.{or_zero}
use Rattle.trans_specs.proofs.Bounds.{below_entry}
use Rattle.trans_words.proofs.Trees.{name, byte, find_name, first_name, word_array, base_array, letter_case, letter_cases, is_letter}
use Rattle.trans_words.proofs.Pairs.{second_of_both, first_of_both}
use Rattle.trans_words.proofs.Held.{word_number, HasReader}
use Rattle.trans_words.proofs.Matching.{is_word}
use Rattle.trans_words.proofs.Standing.{byte_there}
use Rattle.trans_words.proofs.Letters.{HasWord}
use Rattle.trans_words.proofs.Tables.{some_words, few_words, HasColumn, count_rest}
use Rattle.trans_words.proofs.Finding.{find_steps, find_is}

-- what a word names is the number of an entry
pub named_small : (db : Database) (column : Column) → KeepsLimits db → (word : List ℕ)
    → or_zero (which db column word) < 1000
named_small db column limits word = below_entry 1000 (omega arith) db.header.length word None 1
    (drop 1 (entries_of db column)) (omega (
      arith,
      few_words db limits,
      some_words db limits,
      length-map db.words (column_of column),
      count_rest (entries_of db column)
          (omega (arith, length-map db.words (column_of column), some_words db limits)),
    ))
    (omega arith)

-- a first word as it is looked up, where the second word has so many bytes
abbrev pub spoken : List ℕ → ℕ → List ℕ
spoken word m = if nat_eq m 0 then whole_word word else word

-- a word of two bytes or more is no letter
longer : (b c x : ℕ) (rest : List ℕ) → bytes_eq (b ∷ c ∷ rest) (x ∷ []) ≡ false
longer b c x rest = and-false (nat_eq b x)

longer_stays : (b c : ℕ) (rest : List ℕ) → whole_word (b ∷ c ∷ rest) ≡ b ∷ c ∷ rest
longer_stays b c rest = rw (
  longer b c 110 rest,
  longer b c 115 rest,
  longer b c 101 rest,
  longer b c 119 rest,
  longer b c 117 rest,
  longer b c 100 rest,
  longer b c 105 rest,
) refl

abbrev pub first_steps : ℕ → ℕ → ℕ
first_steps size entries = find_steps size entries + 4

module _ (p : Program) (w : Stage) (word : List ℕ) (typed : is_word word ≡ true) (a m : ℕ)
    (has_word : HasWord word a (w.arrays (codes "buf"))) (db : Database)
    (limits : KeepsLimits db) (column : Column)
    (tables : HasColumn db column (w.arrays (word_array column)) (w.arrays (base_array column)))
    (has : HasReader db p) (d : ℕ) where
  abbrev scope : Scope
  scope = record {
    directive = (has.first column).at;
    locals = (codes "a", pos a) ∷ (codes "n", pos (length word)) ∷ (codes "m", pos m) ∷ [];
  }

  abbrev Gives : List ℕ → Type 0
  Gives text = Does p (suc (suc d)) (first_name column)
      (pos a ∷ pos (length word) ∷ pos m ∷ []) w (pos (or_zero (which db column text))) w
      (first_steps db.header.length (length db.words))

  -- it is looked up as it stands
  looked_up : Runs p (suc d) (s.MoreStatements
      (s.Return (Some (v.Call (find_name column)
      (v.arguments (name (codes "a") ∷ name (codes "n") ∷ []))))) s.NoStatements) scope w
      (Returns (pos (or_zero (which db column word)))) scope w
      (find_steps db.header.length (length db.words) + 2)
  looked_up = within (omega arith) (returns (return (call (argument (local refl)
      (argument (local refl) (called (find_is p w word typed a has_word db limits column tables has
      d)))))))

  other : Tests p (suc d) is_letter scope w false w 0 → Gives word
  other test = does_within (omega arith)
      (routine (has.first column) (next (if_false test end) looked_up) by_return)

  one_byte : {t : Bool} → nat_eq (length word) 1 ≡ t
      → Tests p (suc d) (c.Compare Eq (name (codes "n")) (v.Number 1)) scope w t w 0
  one_byte is = compare (local refl) number (eq_is (length word) 1 ∙ is)

  no_second : {t : Bool} → nat_eq m 0 ≡ t
      → Tests p (suc d) (c.Compare Eq (name (codes "m")) (v.Number 0)) scope w t w 0
  no_second is = compare (local refl) number (eq_is m 0 ∙ is)

  -- a longer word, or one before another word
  pub not_one : nat_eq (length word) 1 ≡ false → Gives word
  not_one is = other (first_of_both (one_byte is))

  pub not_alone : nat_eq m 0 ≡ false → Gives word
  not_alone is = from (nat_eq (length word) 1) refl where
    from : (t : Bool) → nat_eq (length word) 1 ≡ t → Gives word
    from true one = other (second_of_both (one_byte one) (no_second is))
    from false one = not_one one

-- ---- a letter alone

module _ (p : Program) (w : Stage) (b : ℕ) (typed : is_word (b ∷ []) ≡ true) (a m : ℕ)
    (alone : nat_eq m 0 ≡ true) (has_word : HasWord (b ∷ []) a (w.arrays (codes "buf")))
    (db : Database) (limits : KeepsLimits db) (column : Column)
    (tables : HasColumn db column (w.arrays (word_array column)) (w.arrays (base_array column)))
    (has : HasReader db p) (d : ℕ) where
  abbrev letter_scope : Scope
  letter_scope = scope p w (b ∷ []) typed a m has_word db limits column tables has d

  -- the first of some cases is taken that returns what this text names, or none, and the text is
  -- the letter itself
  abbrev Picks : Cases → List ℕ → Type 0
  Picks xs text = Leads p (suc d) (TheCases (pos b) xs s.NoDefault) letter_scope w
      (Returns (pos (or_zero (which db column text)))) letter_scope w 1
      ⊎ (Leads p (suc d) (TheCases (pos b) xs s.NoDefault) letter_scope w Normal
      letter_scope w 0 × (text ≡ b ∷ []))

  -- with one more case, that of a letter, its text is picked where that letter was typed
  one_case : (letter : ℕ) (text other : List ℕ) (xs : Cases) → letter < 32768 → Picks xs other
      → Picks (letter_case letter (or_zero (which db column text)) xs)
      (if bytes_eq (b ∷ []) (letter ∷ []) then text else other)
  one_case letter text other xs few rest = from (nat_eq b letter) refl rest where
    small : or_zero (which db column text) < 32768
    small = omega (arith, named_small db column limits text)

    from : (t : Bool) → nat_eq b letter ≡ t → Picks xs other
        → Picks (letter_case letter (or_zero (which db column text)) xs)
        (if t && true then text else other)
    from true is rest = inl (this_case (one_number few is)
        (returns (return (valued (small_number p.width small) number))))
    from false is (inl rest) = inl (later_case (one_number few is) rest)
    from false is (inr rest) = inr (later_case (one_number few is) rest.0, rest.1)

  chosen : Picks (letter_cases (word_number db column)) (whole_word (b ∷ []))
  chosen =
      one_case 110 (codes "north") _ _ (omega arith)
      (one_case 115 (codes "south") _ _ (omega arith)
      (one_case 101 (codes "east") _ _ (omega arith)
      (one_case 119 (codes "west") _ _ (omega arith)
      (one_case 117 (codes "up") _ _ (omega arith)
      (one_case 100 (codes "down") _ _ (omega arith)
      (one_case 105 (codes "inventory") (b ∷ []) s.NoCases (omega arith)
      (inr (no_default, refl))))))))

  letter : Evaluates p (suc d) (byte (codes "buf") (name (codes "a"))) letter_scope w
      (pos b) w 0
  letter =
      let same : a + 0 ≡ a = omega arith in
      entry (local refl) has_word.all_are
      (sym (ap (slice_get has_word.all) same) ∙ byte_there has_word.stands 0 refl)

  test : Tests p (suc d) is_letter letter_scope w true w 0
  test = second_of_both (compare (local refl) number refl)
      (compare (local refl) number (eq_is m 0 ∙ alone))

  -- for a letter alone, the routine returns what the word that it stands for names
  pub letter_is : Does p (suc (suc d)) (first_name column)
      (pos a ∷ pos 1 ∷ pos m ∷ []) w (pos (or_zero (which db column (whole_word (b ∷ []))))) w
      (first_steps db.header.length (length db.words))
  letter_is = from chosen where
    from : Picks (letter_cases (word_number db column)) (whole_word (b ∷ []))
        → Does p (suc (suc d)) (first_name column)
        (pos a ∷ pos 1 ∷ pos m ∷ []) w (pos (or_zero (which db column (whole_word (b ∷ []))))) w
        (first_steps db.header.length (length db.words))
    from (inl leads) = does_within (omega arith) (routine (has.first column)
        (returns (if_true test (returns (switch letter leads)))) by_return)
    from (inr leads) = subst (λ (text : List ℕ). Does p (suc (suc d))
        (first_name column) (pos a ∷ pos 1 ∷ pos m ∷ []) w
        (pos (or_zero (which db column text))) w
        (first_steps db.header.length (length db.words))) (sym leads.1)
        (does_within (omega arith) (routine (has.first column)
        (next (if_true test (next (switch letter leads.0) end))
        (looked_up p w (b ∷ []) typed a m has_word db limits column tables has d)) by_return))

-- ---- any first word

two_are_more : (n : ℕ) → nat_eq (suc (suc n)) 1 ≡ false
two_are_more n = grind arith

-- where there is no second word
alone_is : (p : Program) (w : Stage) (word : List ℕ) → is_word word ≡ true → (a m : ℕ)
    → nat_eq m 0 ≡ true → HasWord word a (w.arrays (codes "buf")) → (db : Database)
    → KeepsLimits db → (column : Column)
    → HasColumn db column (w.arrays (word_array column)) (w.arrays (base_array column))
    → HasReader db p → (d : ℕ)
    → Does p (suc (suc d)) (first_name column)
    (pos a ∷ pos (length word) ∷ pos m ∷ []) w (pos (or_zero (which db column (whole_word word))))
    w (first_steps db.header.length (length db.words))
alone_is p w [] typed a m is has_word db limits column tables has d =
    not_one p w [] typed a m has_word db limits column tables has d refl
alone_is p w (b ∷ []) typed a m is has_word db limits column tables has d =
    letter_is p w b typed a m is has_word db limits column tables has d
alone_is p w (b ∷ c ∷ rest) typed a m is has_word db limits column tables has d =
    subst (λ (text : List ℕ). Does p (suc (suc d)) (first_name column)
    (pos a ∷ pos (length (b ∷ c ∷ rest)) ∷ pos m ∷ []) w (pos (or_zero (which db column text))) w
    (first_steps db.header.length (length db.words))) (sym (longer_stays b c rest))
    (not_one p w (b ∷ c ∷ rest) typed a m has_word db limits column tables has d
    (two_are_more (length rest)))

-- the routine returns what the first word names, which may be a letter that stands for a word
pub first_is : (p : Program) (w : Stage) (word : List ℕ) → is_word word ≡ true → (a m : ℕ)
    → HasWord word a (w.arrays (codes "buf")) → (db : Database) → KeepsLimits db
    → (column : Column)
    → HasColumn db column (w.arrays (word_array column)) (w.arrays (base_array column))
    → HasReader db p → (d : ℕ)
    → Does p (suc (suc d)) (first_name column)
    (pos a ∷ pos (length word) ∷ pos m ∷ []) w (pos (or_zero (which db column (spoken word m)))) w
    (first_steps db.header.length (length db.words))
first_is p w word typed a m has_word db limits column tables has d =
    from (nat_eq m 0) refl where
      from : (t : Bool) → nat_eq m 0 ≡ t → Does p (suc (suc d)) (first_name column)
          (pos a ∷ pos (length word) ∷ pos m ∷ []) w
          (pos (or_zero (which db column (if t then whole_word word else word)))) w
          (first_steps db.header.length (length db.words))
      from true is = alone_is p w word typed a m is has_word db limits column tables has d
      from false is = not_alone p w word typed a m has_word db limits column tables has d is

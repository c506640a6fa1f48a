-- The letters and the base entries of a column, as they stand in their tables.
use Rattle.std.proofs.Common.{◌≡◌, ◌∙◌, arith, ℕ, zero, suc, ◌+◌, ◌*◌, ◌<◌, ◌≤◌, ℤ, Bool, false, ◌&&◌, if◌then◌else◌, List, [], ◌∷◌, ◌++◌, length, drop, flat_map, Option, Some, None, is_some, refl, sym, ap, append_assoc, drop-drop}
use Rattle.std.proofs.Math.Seq.{drop-append_seam}
use Rattle.std.proofs.Math.Nat.{mul-le-mul}
use Rattle.inform_logic.proofs.Values.{entry}
use Rattle.scott_types.specs.declared.commands.Column.{Column}
use Rattle.scott_types.specs.Database.{Database}
use Rattle.scott_types.specs.Limits.{KeepsLimits}
use Rattle.scott_types.specs.ItemText.{is_starred}
use Rattle.scott_rules.specs.Words.{is_typed, spelling, entries_of, entry_from, which}
use Rattle.trans_specs.specs.Tables.{guarded, entry_letters, word_letters, bases, bases_from, word_bases}
use Rattle.trans_specs.specs.Views.{naturals}
use Rattle.trans_specs.proofs.Lengths.{there, few}
use Rattle.trans_words.proofs.Matching.{letters_long}

-- ---- a database that keeps its limits

module _ (db : Database) (limits : KeepsLimits db) where
  pub some_words : 1 ≤ length db.words
  some_words = there 1000 db.words limits.sizes.words

  pub few_words : length db.words ≤ 1000
  few_words = few 1000 db.words limits.sizes.words

  -- the letters of an entry stand at small places
  pub letters_small : (k : ℕ) → k < length db.words
      → db.header.length * k + db.header.length < 32768
  letters_small k less =
      let k_few : k ≤ 1000 = omega (arith, less, few_words) in
      let product_few : db.header.length * k ≤ 20 * 1000 =
      mul-le-mul limits.header.length_range.1 k_few in
      omega (arith, limits.header.length_range.1, product_few)

-- ---- a word of no bytes names nothing

never_typed : (size : ℕ) (word : List ℕ) → 1 ≤ size → is_typed size word [] ≡ false
never_typed zero word one = absurd (omega (arith, one))
never_typed (suc size) [] one = refl
never_typed (suc size) (b ∷ word) one = refl

none_from : (size : ℕ) (base : Option ℕ) (k : ℕ) (entries : List (List ℕ)) → 1 ≤ size
    → entry_from size [] base k entries ≡ None
none_from size base k [] one = refl
none_from size base k (entry ∷ entries) one =
    let nearest = if is_starred entry then base else Some k in
    ap (λ (t : Bool). if t && is_some nearest then nearest
    else entry_from size [] nearest (k + 1) entries) (never_typed size (spelling entry) one)
    ∙ none_from size nearest (k + 1) entries one

pub nothing_named : (db : Database) (column : Column) → KeepsLimits db → which db column [] ≡ None
nothing_named db column limits = none_from db.header.length None 1
    (drop 1 (entries_of db column)) limits.header.length_range.0

-- ---- tables

-- the letters and the base entries of a column stand in their arrays
pub record HasColumn (db : Database) (column : Column) (words bases : Option (List ℤ)) : Type 0
  where
    pub words_are : words ≡ Some (naturals (word_letters db column))
    pub bases_are : bases ≡ Some (naturals (word_bases db column))

-- what is left after a row
pub after_row : (table row rest : List ℕ) (at size : ℕ) → drop at table ≡ row ++ rest
    → length row ≡ size → drop (at + size) table ≡ rest
after_row table row rest at size left long = sym (drop-drop size at table) ∙ ap (drop size) left
    ∙ ap (λ (n : ℕ). drop n (row ++ rest)) (sym long) ∙ drop-append_seam row rest

-- the letters and the bases of the entries after the first
pub first_letters : (size : ℕ) (entries : List (List ℕ)) → 1 ≤ length entries
    → drop (size * 1) (guarded (flat_map (entry_letters size) entries))
    ≡ flat_map (entry_letters size) (drop 1 entries) ++ 0 ∷ []
first_letters size [] some = absurd (omega (arith, some))
first_letters size (text ∷ entries) some =
    let one_row : size * 1 ≡ length (entry_letters size text) =
    omega (arith, letters_long size text) in
    ap (λ (n : ℕ). drop n (guarded (flat_map (entry_letters size) (text ∷ entries)))) one_row
    ∙ ap (drop (length (entry_letters size text))) (append_assoc (entry_letters size text)
    (flat_map (entry_letters size) entries) (0 ∷ []))
    ∙ drop-append_seam (entry_letters size text) (flat_map (entry_letters size) entries ++ 0 ∷ [])

pub first_bases : (entries : List (List ℕ)) → 1 ≤ length entries
    → drop 1 (guarded (bases entries)) ≡ bases_from None 1 (drop 1 entries) ++ 0 ∷ []
first_bases [] some = absurd (omega (arith, some))
first_bases (text ∷ entries) some = refl

pub count_rest : (entries : List (List ℕ)) → 1 ≤ length entries
    → 1 + length (drop 1 entries) ≡ length entries
count_rest [] some = absurd (omega (arith, some))
count_rest (text ∷ entries) some = omega arith

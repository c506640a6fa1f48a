-- The routines are well formed.
use Rattle.std.proofs.Common.{◌≡◌, ◌∙◌, arith, ℕ, ◌≤◌, Bool, true, ◌&&◌, List, [], ◌∷◌, ◌++◌, length, codes, refl}
use Rattle.std.proofs.lemmas.List.Folds.{list_all-append}
use Rattle.inform_tree.specs.Words.{is_number}
use Rattle.inform_tree.specs.Formed.{is_formed_directive, is_well_formed}
use Rattle.inform_codes.specs.Grown.{body_of}
use Rattle.inform_codes.specs.Routines.{rows_directives}
use Rattle.scott_types.specs.declared.commands.Column.{Column}
use Rattle.scott_types.specs.declared.commands.Column.TheVariants.{Verbs, Nouns}
use Rattle.scott_types.specs.Database.{Database}
use Rattle.scott_types.specs.Limits.{KeepsLimits}
use Rattle.scott_rules.specs.Words.{which}
use Rattle.trans_specs.specs.Tables.{or_zero}
use Rattle.trans_words.specs.Laws.{ReaderIsFormed}
use Rattle.trans_words.specs.Directives.{line_directives, column_names, column_rows, column_directives}
use Rattle.trans_words.proofs.Tables.{few_words}
use Rattle.trans_words.proofs.First.{named_small}

few_is_number : (n : ℕ) → n ≤ 1000 → is_number n ≡ true
few_is_number n h = grind (arith, h)

line_formed : is_well_formed line_directives ≡ true
unfolding body_of
line_formed = refl

column_formed : (column : Column) (size entries a b c d e f g : ℕ) → is_number size ≡ true
    → is_number entries ≡ true → is_number a ≡ true → is_number b ≡ true → is_number c ≡ true
    → is_number d ≡ true → is_number e ≡ true → is_number f ≡ true → is_number g ≡ true
    → is_well_formed (rows_directives (column_names column)
    (size ∷ entries ∷ a ∷ b ∷ c ∷ d ∷ e ∷ f ∷ g ∷ []) column_rows) ≡ true
unfolding body_of
column_formed Verbs size entries a b c d e f g hs he ha hb hc hd hi hf hg =
    rw (hs, he, ha, hb, hc, hd, hi, hf, hg) refl
column_formed Nouns size entries a b c d e f g hs he ha hb hc hd hi hf hg =
    rw (hs, he, ha, hb, hc, hd, hi, hf, hg) refl

both_formed : (a b : Bool) → a ≡ true → b ≡ true → a && b ≡ true
both_formed a b p q = rw (p, q) refl

module _ (db : Database) (limits : KeepsLimits db) where
  named : (column : Column) (word : List ℕ) → is_number (or_zero (which db column word)) ≡ true
  named column word = few_is_number (or_zero (which db column word))
      (omega (arith, named_small db column limits word))

  of_column : (column : Column) → is_well_formed (column_directives db column) ≡ true
  of_column column = column_formed column _ _ _ _ _ _ _ _ _
      (few_is_number db.header.length (omega (arith, limits.header.length_range.1)))
      (few_is_number (length db.words) (few_words db limits)) (named column (codes "north"))
      (named column (codes "south")) (named column (codes "east")) (named column (codes "west"))
      (named column (codes "up")) (named column (codes "down"))
      (named column (codes "inventory"))

pub reader_is_formed : ReaderIsFormed
reader_is_formed db limits = list_all-append is_formed_directive line_directives
    (column_directives db Verbs ++ column_directives db Nouns)
    ∙ both_formed _ _ line_formed (list_all-append is_formed_directive
    (column_directives db Verbs) (column_directives db Nouns)
    ∙ both_formed _ _ (of_column db limits Verbs) (of_column db limits Nouns))

-- The verb and the noun of a command, by what its words name.
use Rattle.std.proofs.Common.{◌≡◌, ◌∙◌, arith, ℕ, suc, ◌+◌, pos, nat_eq, nat_lt, nat_le, Bool, true, false, not, ◌&&◌, if◌then◌else◌, List, [], ◌∷◌, length, codes, Some, refl, subst}
use Rattle.inform_tree.specs.declared.conditions.Relation.TheVariants.{Eq}
use Rattle.inform_tree.specs.Values as v
use Rattle.inform_tree.specs.Conditions as c
use Rattle.inform_meaning.specs.Tables.{found}
use Rattle.inform_meaning.specs.Worlds.{Program, Scope}
use Rattle.inform_logic.specs.Stages.{Stage}
use Rattle.inform_logic.specs.Leading.{Tests, Does, by_return}
use Rattle.inform_logic.proofs.Words.{eq_is}
use Rattle.inform_logic.proofs.Values.{number, local, argument, called, call}
use Rattle.inform_logic.proofs.Conditions.{compare}
use Rattle.inform_logic.proofs.Statements.{end, next, returns, return, if_true, if_false}
use Rattle.inform_logic.proofs.Routines.{does_within, routine}
use Rattle.scott_types.specs.declared.commands.Column.{Column}
use Rattle.scott_types.specs.declared.commands.Column.TheVariants.{Verbs, Nouns}
use Rattle.scott_types.specs.Database.{Database}
use Rattle.scott_types.specs.Limits.{KeepsLimits}
use Rattle.scott_rules.specs.Words.{which}
use Rattle.scott_rules.specs.Commands.{is_direction}
use Rattle.trans_specs.specs.Tables.{or_zero}
use Rattle.trans_words.proofs.Trees.{name, is_way, word_array, base_array}
use Rattle.trans_words.proofs.Pairs.{second_of_both, first_of_both}
use Rattle.trans_words.proofs.Held.{HasReader}
use Rattle.trans_words.proofs.Matching.{is_word}
use Rattle.trans_words.proofs.Letters.{HasWord}
use Rattle.trans_words.proofs.Tables.{HasColumn}
use Rattle.trans_words.proofs.Finding.{find_steps, find_is}
use Rattle.trans_words.proofs.First.{spoken, first_steps, first_is}
use Rattle.trans_words.proofs.Heard.{verb_by}

-- whether the noun x is a direction
way_is : (p : Program) (d : ℕ) (s : Scope) (w : Stage) (x : ℕ) {t : Bool} → is_direction x ≡ t
    → found (codes "x") s.locals ≡ Some (pos x) → Tests p d is_way s w t w 0
way_is p d s w x {t} is has_x = from (nat_lt 0 x) refl is where
  not_above : not (nat_lt 6 x) ≡ nat_le x 6
  not_above = grind arith

  from : (u : Bool) → nat_lt 0 x ≡ u → u && nat_le x 6 ≡ t → Tests p d is_way s w t w 0
  from true some is = second_of_both (compare number (local has_x) some)
      (compare (local has_x) number (not_above ∙ is))
  from false none is = subst (λ (t : Bool). Tests p d is_way s w t w 0) is
      (first_of_both (compare number (local has_x) none))

module _ (p : Program) (w : Stage) (db : Database) (limits : KeepsLimits db)
    (tables : (column : Column)
    → HasColumn db column (w.arrays (word_array column)) (w.arrays (base_array column)))
    (has : HasReader db p) (word : List ℕ) (typed : is_word word ≡ true) (a : ℕ)
    (has_word : HasWord word a (w.arrays (codes "buf"))) (d : ℕ) where
  abbrev size : ℕ
  size = db.header.length

  abbrev verb_scope : ℕ → ℕ → Scope
  verb_scope x m = record {
    directive = has.heard_verb.at;
    locals = (codes "x", pos x) ∷ (codes "a", pos a) ∷ (codes "n", pos (length word))
        ∷ (codes "m", pos m) ∷ [];
  }

  abbrev noun_scope : ℕ → ℕ → Scope
  noun_scope x verb = record {
    directive = has.heard_noun.at;
    locals = (codes "x", pos x) ∷ (codes "v", pos verb) ∷ (codes "a", pos a)
        ∷ (codes "n", pos (length word)) ∷ [];
  }

  -- the first word has the verb, where the second word has so many bytes
  pub heard_verb_is : (x m : ℕ) → Does p (suc (suc (suc d))) (codes "heard_verb")
      (pos x ∷ pos a ∷ pos (length word) ∷ pos m ∷ []) w
      (pos (verb_by x (or_zero (which db Verbs (spoken word m))))) w
      (first_steps size (length db.words) + 3)
  heard_verb_is x m = from (is_direction x) refl where
    from : (t : Bool) → is_direction x ≡ t
        → Does p (suc (suc (suc d))) (codes "heard_verb")
        (pos x ∷ pos a ∷ pos (length word) ∷ pos m ∷ []) w
        (pos (if t then 1 else or_zero (which db Verbs (spoken word m)))) w
        (first_steps size (length db.words) + 3)
    from true is = does_within (omega arith) (routine has.heard_verb
        (returns (if_true (way_is p _ (verb_scope x m) w x is refl) (returns (return number))))
        by_return)
    from false is = does_within (omega arith) (routine has.heard_verb
        (next (if_false (way_is p _ (verb_scope x m) w x is refl) end)
        (returns (return (call (argument (local refl) (argument (local refl)
        (argument (local refl) (called (first_is p w word typed a m has_word db limits Verbs
        (tables Verbs) has d))))))))) by_return)

  -- the second word has the noun
  pub heard_noun_is : (x verb : ℕ) → Does p (suc (suc d)) (codes "heard_noun")
      (pos x ∷ pos verb ∷ pos a ∷ pos (length word) ∷ []) w
      (pos (if nat_eq verb 0 then 0 else if is_direction x then x
      else or_zero (which db Nouns word))) w (find_steps size (length db.words) + 4)
  heard_noun_is x verb = from (nat_eq verb 0) refl (is_direction x) refl where
    no_verb : {t : Bool} → nat_eq verb 0 ≡ t → Tests p (suc d)
        (c.Compare Eq (name (codes "v")) (v.Number 0)) (noun_scope x verb) w t w 0
    no_verb is = compare (local refl) number (eq_is verb 0 ∙ is)

    from : (t : Bool) → nat_eq verb 0 ≡ t → (u : Bool) → is_direction x ≡ u
        → Does p (suc (suc d)) (codes "heard_noun")
        (pos x ∷ pos verb ∷ pos a ∷ pos (length word) ∷ []) w
        (pos (if t then 0 else if u then x else or_zero (which db Nouns word)))
        w (find_steps size (length db.words) + 4)
    from true none u is = does_within (omega arith) (routine has.heard_noun
        (returns (if_true (no_verb none) (returns (return number)))) by_return)
    from false some true is = does_within (omega arith) (routine has.heard_noun
        (next (if_false (no_verb some) end)
        (returns (if_true (way_is p _ (noun_scope x verb) w x is refl)
        (returns (return (local refl))))))
        by_return)
    from false some false is = does_within (omega arith) (routine has.heard_noun
        (next (if_false (no_verb some) end)
        (next (if_false (way_is p _ (noun_scope x verb) w x is refl) end)
        (returns (return (call (argument (local refl) (argument (local refl)
        (called (find_is p w word typed a has_word db limits Nouns (tables Nouns) has d)))))))))
        by_return)

-- Getting and dropping one item.
use Rattle.std.proofs.Common.{◌≡◌, ◌∙◌, arith, ℕ, suc, ◌+◌, ◌<◌, ◌≤◌, pos, nat_eq, Bool, true, false, not, ◌&&◌, if◌then◌else◌, List, [], ◌∷◌, length, codes, Option, Some, None, refl, ap}
use Rattle.std.proofs.lemmas.List.{length-map}
use Rattle.adv_io.specs.Steps.{Step, Traced}
use Rattle.inform_meaning.specs.Worlds.{Program}
use Rattle.inform_logic.specs.Stages.{Stage}
use Rattle.inform_logic.specs.Leading.{by_return, at_end}
use Rattle.inform_logic.proofs.Words.{eq_is, small_number}
use Rattle.inform_logic.proofs.Values.{valued, number, local, entry, call, argument, called}
use Rattle.inform_logic.proofs.Conditions.{compare, nonzero}
use Rattle.inform_logic.proofs.Changes.{set_variable}
use Rattle.inform_logic.proofs.Printing.{print_nothing, print_text}
use Rattle.inform_logic.proofs.Statements.{end, next, returns, assign, print, call_alone, if_true, if_false, return_true}
use Rattle.inform_logic.proofs.Routines.{does_within, routine}
use Rattle.inform_codes.specs.Grown.{body_of}
use Rattle.scott_types.specs.declared.states.State.{State}
use Rattle.scott_types.specs.declared.styles.Style.{Style}
use Rattle.scott_types.specs.declared.parts.Item.{Item}
use Rattle.scott_types.specs.declared.commands.Column.TheVariants.{Nouns}
use Rattle.scott_types.specs.declared.endings.Transfer.{Transfer}
use Rattle.scott_types.specs.declared.phrases.Phrase.TheVariants.{TooMuch, WhatItem, Done, BeyondPower}
use Rattle.scott_types.specs.Phrase.{text_of, text_in}
use Rattle.scott_types.specs.Database.{Database}
use Rattle.scott_types.specs.ItemText.{get_word}
use Rattle.scott_types.specs.Style.{in_style}
use Rattle.scott_rules.specs.Words.{is_empty, is_typed, entries_of, column_of, root}
use Rattle.scott_rules.specs.Progress.{Progress}
use Rattle.scott_rules.specs.Transfer.{verb_for, is_at_hand, is_refused, item_named, one_moved, one_from, one_transferred}
use Rattle.trans_specs.specs.Tables.{or_zero, class_of_noun}
use Rattle.trans_specs.specs.Standing.{StandsFor}
use Rattle.trans_specs.specs.DataSpecs.{text_room}
use Rattle.trans_specs.specs.CommandSpecs.{IsNoun}
use Rattle.trans_specs.proofs.Left.{said_left, left_then}
use Rattle.trans_commands.proofs.Spent.{one_steps}
use Rattle.trans_specs.proofs.Acts.{CallActs, returns_acts}
use Rattle.trans_commands.proofs.Known.{Known, few_items}
use Rattle.trans_specs.proofs.Entries.{bit_tells}
use Rattle.trans_commands.proofs.Tabled.{some_noun}
use Rattle.trans_commands.proofs.Named.{class_at}
use Rattle.trans_commands.proofs.Found.{Gives, find_item}
use Rattle.trans_commands.proofs.OneItem.{refused, put_item, put_left}

-- the item that is named is one of those
named_less : (t : Transfer) (size : ℕ) (word : List ℕ) (s : State) (i : ℕ) (items : List Item)
    (k : ℕ) → item_named t size word i items s ≡ Some k → k < i + length items
named_less t size word s i [] k h = cc
named_less t size word s i (item ∷ items) k h =
    by (is_at_hand t s i && (not (is_empty word) && is_typed size (get_word item.text) word)) h
    (named_less t size word s (i + 1) items k) where
      by : (b : Bool) → (if b then Some i else item_named t size word (i + 1) items s) ≡ Some k
          → (item_named t size word (i + 1) items s ≡ Some k → k < i + 1 + length items)
          → k < i + length (item ∷ items)
      by true h more =
          let same : i ≡ k = ap (λ (o : Option ℕ). or_zero o) h in omega (arith, same)
      by false h more = omega (arith, more h)

module _ {style : Style} {db : Database} {p : Program} (known : Known style db p) (s : State)
    (typed : List ℕ) (w : Stage) (stands : StandsFor db s typed w) (t : Transfer) (d : ℕ)
    (room : text_room ≤ d) where
  abbrev Moves : Option ℕ → Traced Step Progress → Type 0
  Moves noun r = CallActs r.value.over db p (suc (suc (suc d))) (codes "move_one")
      (pos (verb_for t) ∷ pos (or_zero noun) ∷ []) w typed r.value.state r.events (one_steps db)

  itself : (n : ℕ) → nat_eq n n ≡ true
  itself n = grind arith

  another : (k n : ℕ) → k < n → nat_eq k n ≡ false
  another k n less = grind (arith, less)

  -- by the item that is found
  moved : (noun : ℕ) → 1 ≤ noun → noun < length db.words → is_refused t db s ≡ false
      → (o : Option ℕ) → item_named t db.header.length (root db noun) 0 db.items s ≡ o
      → Gives known s typed w stands t d (class_of_noun db (root db noun)) o
      → Moves (Some noun) (one_moved style t o s)
  unfolding body_of
  moved noun some there free None is finds = returns_acts (does_within (omega arith) (routine
      known.move_one (next (if_false (compare (local refl) number
      (eq_is noun 0 ∙ some_noun noun some)) end)
      (next (if_false (nonzero (call (argument (local refl)
      (called (refused known s typed w stands t (suc d) (omega (arith, room))))))
      (bit_tells (is_refused t db s) ∙ free)) end)
      (next (assign (set_variable (call (argument (local refl) (argument (entry (local refl)
      stands.ready.tables.noun_classes_are (class_at db (entries_of db Nouns) noun some
      (omega (arith, there, length-map db.words (column_of Nouns))))) (called finds)))) refl))
      (returns (if_true (compare (local refl)
      (valued (small_number p.width (omega (arith, few_items known))) number)
      (eq_is (length db.items) (length db.items) ∙ itself (length db.items)))
      (next (print (print_text print_nothing)) (returns return_true))))))) by_return))
      (said_left (text_in style BeyondPower) stands)
  moved noun some there free (Some k) is finds = returns_acts (does_within (omega arith) (routine
      known.move_one (next (if_false (compare (local refl) number
      (eq_is noun 0 ∙ some_noun noun some)) end)
      (next (if_false (nonzero (call (argument (local refl)
      (called (refused known s typed w stands t (suc d) (omega (arith, room))))))
      (bit_tells (is_refused t db s) ∙ free)) end)
      (next (assign (set_variable (call (argument (local refl) (argument (entry (local refl)
      stands.ready.tables.noun_classes_are (class_at db (entries_of db Nouns) noun some
      (omega (arith, there, length-map db.words (column_of Nouns))))) (called finds)))) refl))
      (next (if_false (compare (local refl)
      (valued (small_number p.width (omega (arith, few_items known))) number)
      (eq_is k (length db.items) ∙ another k (length db.items) less)) end)
      (next (call_alone (argument (local refl) (argument (local refl)
      (called (put_item known s typed w stands t k (suc d) less)))))
      (next (print (print_text print_nothing)) end)))))) at_end))
      (left_then (put_left known s typed w stands t k less)
      (said_left (text_of Done) (put_left known s typed w stands t k less).stands)) where
        less : k < length db.items
        less = omega (arith, named_less t db.header.length (root db noun) s 0 db.items k is)

  -- by whether the hands are full
  tried : (noun : ℕ) → 1 ≤ noun → noun < length db.words → (b : Bool) → is_refused t db s ≡ b
      → Moves (Some noun) (one_from b t (in_style style db) noun s)
  unfolding body_of
  tried noun some there true is = returns_acts (does_within (omega arith) (routine known.move_one
      (next (if_false (compare (local refl) number (eq_is noun 0 ∙ some_noun noun some)) end)
      (returns (if_true (nonzero (call (argument (local refl)
      (called (refused known s typed w stands t (suc d) (omega (arith, room))))))
      (bit_tells (is_refused t db s) ∙ is))
      (next (print (print_text print_nothing)) (returns return_true))))) by_return))
      (said_left (text_in style TooMuch) stands)
  tried noun some there false is = moved noun some there is
      (item_named t db.header.length (root db noun) 0 db.items s) refl
      (find_item known s typed w stands t d noun some there)

  pub move_one : (noun : Option ℕ) → IsNoun db noun
      → Moves noun (one_transferred t (in_style style db) noun s)
  unfolding body_of
  move_one None there = returns_acts (does_within (omega arith) (routine known.move_one (returns
      (if_true (compare (local refl) number refl)
      (next (print (print_text print_nothing)) (returns return_true)))) by_return))
      (said_left (text_of WhatItem) stands)
  move_one (Some noun) there = tried noun there.0 there.1 (is_refused t db s) refl

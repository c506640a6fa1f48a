-- The search for the item of a class.
use Rattle.std.proofs.Common.{◌≡◌, ◌∙◌, arith, ℕ, suc, ◌+◌, ◌*◌, ◌<◌, ◌≤◌, pos, nat_eq, nat_lt, Bool, true, false, ◌&&◌, if◌then◌else◌, List, [], ◌∷◌, length, drop, codes, Option, Some, None, unwrap_or, refl, sym, ap, subst, subst₂}
use Rattle.inform_meaning.specs.Worlds.{Program, Scope}
use Rattle.inform_meaning.specs.Frames.{Loop, Outcome, Normal, Returns}
use Rattle.inform_logic.specs.Stages.{Stage}
use Rattle.inform_logic.specs.Leading.{Does, TestsIfAny, Runs, Loops, by_return}
use Rattle.inform_logic.proofs.Lists.{after_rest}
use Rattle.inform_logic.proofs.Words.{eq_is, small_number, counted_up}
use Rattle.inform_logic.proofs.Values.{within, valued, number, local, entry, call, argument, called}
use Rattle.inform_logic.proofs.Conditions.{compare, nonzero, all_of, all_hold, one_holds, one_fails}
use Rattle.inform_logic.proofs.Changes.{set_variable, increment}
use Rattle.inform_logic.proofs.Statements.{end, next, returns, return, if_true, if_false}
use Rattle.inform_logic.proofs.Loops.{for, for_once_more, for_ends, loop_returns}
use Rattle.inform_logic.proofs.Routines.{does_within, routine}
use Rattle.inform_codes.specs.Grown.{body_of}
use Rattle.scott_types.specs.declared.states.State.{State}
use Rattle.scott_types.specs.declared.styles.Style.{Style}
use Rattle.scott_types.specs.declared.parts.Item.{Item}
use Rattle.scott_types.specs.declared.endings.Transfer.{Transfer}
use Rattle.scott_types.specs.Database.{Database}
use Rattle.scott_rules.specs.Words.{root}
use Rattle.scott_rules.specs.Transfer.{verb_for, is_at_hand, item_named}
use Rattle.trans_specs.specs.Tables.{class_of, item_word, is_class, class_of_noun}
use Rattle.trans_specs.specs.Standing.{StandsFor}
use Rattle.trans_commands.proofs.Blocks.{first_of, rest_of, loop_of}
use Rattle.trans_commands.proofs.Known.{Known, body, few_items}
use Rattle.trans_specs.proofs.Entries.{bit_tells}
use Rattle.trans_commands.proofs.Tabled.{tabled}
use Rattle.trans_commands.proofs.Named.{classed, no_class, class_some, by_class}
use Rattle.trans_commands.proofs.OneItem.{at_hand}
use Rattle.trans_commands.specs.declared.items.TheConstants.{FIND_ITEM}

-- how the loop ends: at an item, or after the last one
abbrev found_outcome : Option ℕ → Outcome
found_outcome None = Normal
found_outcome (Some k) = Returns (pos k)

module _ {style : Style} {db : Database} {p : Program} (known : Known style db p) (s : State)
    (typed : List ℕ) (w : Stage) (stands : StandsFor db s typed w) (t : Transfer) (d : ℕ) where
  abbrev find_loop : Loop
  find_loop = loop_of (first_of (rest_of (body style db FIND_ITEM)))

  abbrev at_item : ℕ → ℕ → Scope
  at_item c i = record {
    directive = known.find_item.at;
    locals = (codes "v", pos (verb_for t)) ∷ (codes "c", pos c) ∷ (codes "i", pos i) ∷ [];
  }

  -- from an item on, where this one is found
  record Finds (c i : ℕ) (o : Option ℕ) (most : ℕ) : Type 0 where
    last : ℕ
    turns : Loops p (suc d) find_loop (at_item c i) w (found_outcome o) (at_item c last) w most

  -- from an item on, the loop finds the first at hand that is of a class, in at most eight steps
  -- for each item and one more
  find_from : (c i : ℕ) (rest : List Item) → drop i db.items ≡ rest
      → i + length rest ≡ length db.items
      → Finds c i (classed db t s c i rest) (8 * length rest + 1)
  unfolding body_of
  find_from c i [] left all = record {
    last = i;
    turns = for_ends (compare (local refl)
        (valued (small_number p.width (omega (arith, few_items known))) number) over);
  } where
    over : nat_lt i (length db.items) ≡ false
    over = grind (arith, all)
  find_from c i (item ∷ rest) left all = by (is_at_hand t s i)
      (nat_eq (class_of db (item_word item)) c) refl refl
      (find_from c (i + 1) rest (after_rest db.items i left) (omega (arith, all))) where
        less : i < length db.items
        less = omega (arith, all)

        under : nat_lt i (length db.items) ≡ true
        under = grind (arith, all)

        on : TestsIfAny p (suc d) find_loop.test (at_item c i) w true w 0
        on = compare (local refl)
            (valued (small_number p.width (omega (arith, few_items known))) number) under

        later : (o : Option ℕ) → Runs p (suc d) find_loop.body (at_item c i) w Normal
            (at_item c i) w 7 → Finds c (i + 1) o (8 * length rest + 1)
            → Finds c i o (8 * length (item ∷ rest) + 1)
        later o runs more = record {
          last = more.last;
          turns = within (omega arith) (for_once_more on runs
              (increment refl (counted_up p.width i (omega (arith, less, few_items known))))
              more.turns);
        }

        by : (a b : Bool) → is_at_hand t s i ≡ a → nat_eq (class_of db (item_word item)) c ≡ b
            → Finds c (i + 1) (classed db t s c (i + 1) rest) (8 * length rest + 1)
            → Finds c i (if a && b then Some i else classed db t s c (i + 1) rest)
            (8 * length (item ∷ rest) + 1)
        by true true hand class more = record {
          last = i;
          turns = within (omega arith) (loop_returns on refl (returns (if_true (all_of (one_holds
              (nonzero (call (argument (local refl) (argument (local refl)
              (called (at_hand known s typed w stands t i d less)))))
              (bit_tells (is_at_hand t s i) ∙ hand))
              (one_holds (compare (entry (local refl) stands.ready.tables.item_classes_are
              (tabled _ db.items i left)) (local refl)
              (eq_is (class_of db (item_word item)) c ∙ class)) all_hold)))
              (returns (return (local refl))))));
        }
        by true false hand class more = later (classed db t s c (i + 1) rest) (within (omega arith)
            (next (if_false (all_of (one_holds
            (nonzero (call (argument (local refl) (argument (local refl)
            (called (at_hand known s typed w stands t i d less)))))
            (bit_tells (is_at_hand t s i) ∙ hand))
            (one_fails (compare (entry (local refl) stands.ready.tables.item_classes_are
            (tabled _ db.items i left)) (local refl)
            (eq_is (class_of db (item_word item)) c ∙ class))))) end) end)) more
        by false b hand class more = later (classed db t s c (i + 1) rest) (within (omega arith)
            (next (if_false (all_of (one_fails
            (nonzero (call (argument (local refl) (argument (local refl)
            (called (at_hand known s typed w stands t i d less)))))
            (bit_tells (is_at_hand t s i) ∙ hand)))) end) end)) more

  -- the number of the item, or how many items there are
  abbrev pub item_or_end : Option ℕ → ℕ
  item_or_end o = unwrap_or o (length db.items)

  abbrev pub Gives : ℕ → Option ℕ → Type 0
  Gives c o = Does p (suc (suc d)) (codes "find_item") (pos (verb_for t) ∷ pos c ∷ []) w
      (pos (item_or_end o)) w (8 * length db.items + 6)

  -- no class
  nothing_found : Gives 0 None
  unfolding body_of
  nothing_found = does_within (omega arith) (routine known.find_item (returns (if_true
      (compare (local refl) number refl) (returns (return
      (valued (small_number p.width (omega (arith, few_items known))) number))))) by_return)

  found_by_class : (c : ℕ) → nat_eq c 0 ≡ false → (o : Option ℕ)
      → Finds c 0 o (8 * length db.items + 1) → Gives c o
  unfolding body_of
  found_by_class c some None finds = does_within (omega arith) (routine known.find_item (next
      (if_false (compare (local refl) number (eq_is c 0 ∙ some)) end)
      (next (for (set_variable number refl) finds.turns) (returns (return
      (valued (small_number p.width (omega (arith, few_items known))) number))))) by_return)
  found_by_class c some (Some k) finds = does_within (omega arith) (routine known.find_item (next
      (if_false (compare (local refl) number (eq_is c 0 ∙ some)) end)
      (returns (for (set_variable number refl) finds.turns))) by_return)

  -- by the class of a noun, `find_item` finds the item that the rules find by the noun's word
  pub find_item : (noun : ℕ) → 1 ≤ noun → noun < length db.words
      → Gives (class_of_noun db (root db noun))
      (item_named t db.header.length (root db noun) 0 db.items s)
  find_item noun some there = by (is_class (root db noun)) refl where
    by : (b : Bool) → is_class (root db noun) ≡ b → Gives (class_of_noun db (root db noun))
        (item_named t db.header.length (root db noun) 0 db.items s)
    by true is = subst (λ o. Gives (class_of_noun db (root db noun)) o)
        (by_class known.laws.classes_tell db known.limits t s noun some there is)
        (found_by_class (class_of_noun db (root db noun))
        (class_some known.laws.classes_tell db known.limits t s noun some there is)
        (classed db t s (class_of_noun db (root db noun)) 0 db.items)
        (find_from (class_of_noun db (root db noun)) 0 db.items refl (omega arith)))
    by false is = subst₂ (λ c o. Gives c o)
        (sym (ap (λ (b : Bool). if b then class_of db (root db noun) else 0) is))
        (sym (no_class known.laws.classes_tell db known.limits t s noun some there is))
        nothing_found

-- The routines of the score.
use Rattle.std.proofs.Common.{◌≡◌, ◌∙◌, arith, ℕ, zero, suc, ◌+◌, ◌*◌, ◌<◌, ◌≤◌, pos, ◌&&◌, Bool, true, false, cond, List, [], ◌∷◌, ◌++◌, map, length, drop, fold, slice_get, codes, Some, refl, sym, ap, subst, add-zero}
use Rattle.std.specs.Prelude.{zip}
use Rattle.std.specs.List.{list_all}
use Rattle.std.specs.Ordering.{int_eq}
use Rattle.std.proofs.lemmas.Bool.{and_parts}
use Rattle.inform_tree.specs.declared.conditions.Relation.TheVariants.{Eq}
use Rattle.inform_tree.specs.Values as v
use Rattle.inform_tree.specs.Conditions as c
use Rattle.inform_tree.specs.Statements as t
use Rattle.inform_meaning.specs.Worlds.{Program, Scope}
use Rattle.inform_meaning.specs.Frames.{Loop, Normal}
use Rattle.inform_meaning.specs.Statements.{for_loop}
use Rattle.inform_logic.specs.Stages.{Stage}
use Rattle.inform_logic.specs.Leading.{Tests, Loops, Does, by_return}
use Rattle.inform_logic.proofs.Lists.{after_rest}
use Rattle.inform_logic.proofs.Words.{small_number, counted_up, eq_is}
use Rattle.inform_logic.proofs.Values.{within, valued, number, local, entry}
use Rattle.inform_logic.proofs.Conditions.{compare, nonzero, all_of, all_hold, one_holds, one_fails}
use Rattle.inform_logic.proofs.Changes.{set_variable, increment}
use Rattle.inform_logic.proofs.Statements.{end, next, returns, assign, return, if_true, if_false}
use Rattle.inform_logic.proofs.Loops.{for, for_once_more, for_ends}
use Rattle.inform_logic.proofs.Routines.{does_within, routine}
use Rattle.inform_codes.specs.Grown.{body_of}
use Rattle.scott_types.specs.declared.parts.Item.{Item}
use Rattle.scott_types.specs.declared.states.State.{State}
use Rattle.scott_types.specs.declared.styles.Style.{Style}
use Rattle.scott_types.specs.Database.{Database}
use Rattle.scott_types.specs.Limits.{KeepsLimits}
use Rattle.scott_types.specs.ItemText.{is_treasure}
use Rattle.scott_types.specs.State.{is_place, Fits}
use Rattle.scott_rules.specs.Looking.{is_stored, stored_count}
use Rattle.trans_specs.specs.Tables.{bit}
use Rattle.trans_specs.specs.Views.{naturals, Shows}
use Rattle.trans_specs.specs.Standing.{HasTables}
use Rattle.trans_data.specs.Numbers.{byte_or_more, numbers}
use Rattle.trans_data.specs.Routines.{routine_names}
use Rattle.trans_data.proofs.Lists.{entry_before, under, not_under, at_most, same_byte, byte_small, bit_nonzero}
use Rattle.trans_data.proofs.Served.{HasAll}
use Rattle.trans_data.proofs.Places.{item_below, few_items}

-- ---- `for (i = 0: i < items: i++) if (gold-->i && item-->i == home) n++;`

abbrev is_gold : c.Condition
is_gold = c.Nonzero (v.Entry (codes "gold") true (v.Name (codes "i")))

abbrev is_home : ℕ → c.Condition
is_home home =
    c.Compare Eq (v.Entry (codes "item") true (v.Name (codes "i"))) (v.Number home)

abbrev both_tests : ℕ → c.Condition
both_tests home =
    c.All (c.MoreConditions is_gold (c.MoreConditions (is_home home) c.NoConditions))

abbrev stored_loop : ℕ → ℕ → Loop
stored_loop items home = for_loop (Some (item_below items)) (Some (t.Inc (codes "i")))
    (t.statements (t.If (both_tests home)
    (t.statements (t.Assign (t.Inc (codes "n")) ∷ [])) t.NoStatements ∷ []))

abbrev storing : ℕ → ℕ → ℕ → Scope
storing r i n =
    record { directive = r; locals = (codes "i", pos i) ∷ (codes "n", pos n) ∷ [] }

-- an entry of an array that is made of a list
gold_entry : {X : Type 0} (f : X → ℕ) (xs : List X) (zs : List ℕ) (i : ℕ) {x : X} {rest : List X}
    → drop i xs ≡ x ∷ rest → slice_get (naturals (map f xs ++ zs)) i ≡ Some (pos (f x))
gold_entry f [] zs zero h = cc
gold_entry f [] zs (suc i) h = cc
gold_entry f (y ∷ ys) zs zero {x} {rest} h = ap (λ ls. slice_get (naturals (map f ls ++ zs)) 0) h
gold_entry f (y ∷ ys) zs (suc i) h = gold_entry f ys zs i h

module _ (style : Style) (db : Database) (limits : KeepsLimits db) (p : Program)
    (has : HasAll style db p) (s : State) (w : Stage) (shows : Shows s w) (fits : Fits db s)
    (tables : HasTables db w) where
  pub few : length db.items < 32768
  few = omega (arith, few_items db limits)

  abbrev counted : Item × ℕ → Bool
  counted pair = is_stored db.header.home pair.0 pair.1

  abbrev more : ℕ → List Item → List ℕ → ℕ
  more n xs ys = fold (λ n pair. n + cond (counted pair) 1 0) n (zip xs ys)

  abbrev home : ℕ
  home = byte_or_more db.header.home

  module _ (d r : ℕ) where
    -- from item i on, with so many before it that are stored
    abbrev Counts : ℕ → ℕ → ℕ → ℕ → Type 0
    Counts i n all most = Loops p d (stored_loop (length db.items) home) (storing r i n) w Normal
        (storing r (length db.items) all) w most

    stored_counted : (xs : List Item) (ys : List ℕ) (i n : ℕ) → drop i db.items ≡ xs
        → drop i s.places.items ≡ ys → i + length xs ≡ length db.items → length ys ≡ length xs
        → list_all is_place ys ≡ true → n ≤ i → Counts i n (more n xs ys) (3 * length xs + 1)
    stored_counted [] [] i n left also all same places low =
        let done : length db.items ≡ i = omega (arith, all) in
        subst (λ i. Counts i n n 1) done
        (for_ends (compare (local refl) (valued (small_number p.width few) number)
        (not_under (length db.items))))
    stored_counted [] (y ∷ ys) i n left also all same places low = absurd (omega (arith, same))
    stored_counted (x ∷ xs) [] i n left also all same places low = absurd (omega (arith, same))
    stored_counted (x ∷ xs) (y ∷ ys) i n left also all same places low =
        from (is_treasure x.text) (int_eq (pos y) db.header.home) refl refl
        (λ m h. stored_counted xs ys (i + 1) m (after_rest db.items i left)
        (after_rest s.places.items i also) (omega (arith, all)) (omega (arith, same)) parts.1 h)
      where
        parts : (is_place y ≡ true) × (list_all is_place ys ≡ true)
        parts = and_parts (is_place y) (list_all is_place ys) places

        on : Tests p d (item_below (length db.items)) (storing r i n) w true w 0
        on = compare (local refl) (valued (small_number p.width few) number)
            (under i (length db.items) (omega (arith, all)))

        next_item : i + 1 < 32768
        next_item = omega (arith, all, few)

        gold : {b : Bool} → is_treasure x.text ≡ b → Tests p d is_gold (storing r i n) w b w 0
        gold is = nonzero (entry (local refl) tables.treasures_are
            (gold_entry (λ (item : Item). bit (is_treasure item.text)) db.items (0 ∷ []) i left))
            (bit_nonzero (is_treasure x.text) ∙ is)

        at_home : {b : Bool} → int_eq (pos y) db.header.home ≡ b
            → Tests p d (is_home home) (storing r i n) w b w 0
        at_home is = compare (entry (local refl) shows.places_are
            (entry_before pos s.places.items (shows.guard ∷ []) i also))
            (valued (small_number p.width (byte_small db.header.home)) number)
            (eq_is y home ∙ same_byte y db.header.home (at_most y 255 parts.0) ∙ is)

        after_no : ((m : ℕ) → m ≤ i + 1 → Counts (i + 1) m (more m xs ys) (3 * length xs + 1))
            → Counts (i + 1) n (more (n + 0) xs ys) (3 * length xs + 1)
        after_no after = subst (λ m. Counts (i + 1) n (more m xs ys) (3 * length xs + 1))
            (sym (add-zero n)) (after n (omega (arith, low)))

        from : (a b : Bool) → is_treasure x.text ≡ a → int_eq (pos y) db.header.home ≡ b
            → ((m : ℕ) → m ≤ i + 1 → Counts (i + 1) m (more m xs ys) (3 * length xs + 1))
            → Counts i n (more (n + cond (a && b) 1 0) xs ys) (3 * length (x ∷ xs) + 1)
        from true true h k after = within (omega arith) (for_once_more on
            (next (if_true (all_of (one_holds (gold h) (one_holds (at_home k) all_hold)))
            (next (assign (increment refl (counted_up p.width n (omega (arith, low, all, few)))))
            end))
            end) (increment refl (counted_up p.width i next_item))
            (after (n + 1) (omega (arith, low))))
        from true false h k after = within (omega arith) (for_once_more on
            (next (if_false (all_of (one_holds (gold h) (one_fails (at_home k)))) end) end)
            (increment refl (counted_up p.width i next_item)) (after_no after))
        from false b h k after = within (omega arith) (for_once_more on
            (next (if_false (all_of (one_fails (gold h))) end) end)
            (increment refl (counted_up p.width i next_item)) (after_no after))

  pub stored_does : (d : ℕ) → Does p (suc d) (codes "stored") [] w (pos (stored_count db s)) w
      (3 * length db.items + 3)
  unfolding body_of routine_names numbers
  stored_does d = does_within (omega arith)
      (routine has.stored (next (for (set_variable number refl)
      (stored_counted d has.stored.at db.items s.places.items 0 0 refl refl (omega arith)
      fits.places.count fits.places.places (omega arith))) (returns (return (local refl))))
      by_return)

-- What the routines of items and places do.
use Rattle.std.proofs.Common.{◌≡◌, ◌∙◌, arith, ℕ, suc, ◌+◌, ◌*◌, ◌<◌, ◌≤◌, pos, nat_eq, nat_le, nat_lt, ◌==◌, ◌||◌, ◌&&◌, not, Bool, true, false, List, [], ◌∷◌, length, drop, fold, cond, codes, count_by, Some, refl, sym, ap, subst, add-zero}
use Rattle.std.proofs.lemmas.Bool.{and_parts}
use Rattle.inform_tree.specs.declared.conditions.Relation.TheVariants.{Lt, Eq}
use Rattle.inform_tree.specs.Values as v
use Rattle.inform_tree.specs.Conditions as c
use Rattle.inform_tree.specs.Statements as t
use Rattle.inform_meaning.specs.Worlds.{Program, Scope}
use Rattle.inform_meaning.specs.Frames.{Loop, Normal}
use Rattle.inform_meaning.specs.Statements.{for_loop}
use Rattle.inform_logic.specs.Stages.{Stage}
use Rattle.inform_logic.specs.Leading.{Tests, Loops, Does, by_return}
use Rattle.inform_logic.proofs.Lists.{after_rest}
use Rattle.inform_logic.proofs.Words.{small_number, counted_up, eq_is}
use Rattle.inform_logic.proofs.Values.{within, valued, number, local, global, entry, argument, called, call}
use Rattle.inform_logic.proofs.Conditions.{compare, nonzero, any_of, this_holds, this_fails, none_holds}
use Rattle.inform_logic.proofs.Changes.{set_variable, increment}
use Rattle.inform_logic.proofs.Statements.{end, next, returns, assign, return, return_true, return_false, if_true, if_false}
use Rattle.inform_logic.proofs.Loops.{for, for_once_more, for_ends}
use Rattle.inform_logic.proofs.Routines.{does_within, routine}
use Rattle.inform_codes.specs.Grown.{body_of}
use Rattle.scott_types.specs.declared.states.State.{State}
use Rattle.scott_types.specs.declared.styles.Style.{Style}
use Rattle.scott_types.specs.Database.{Database}
use Rattle.scott_types.specs.Limits.{KeepsLimits}
use Rattle.scott_types.specs.State.{place_of, is_near, flag_of, is_dark, dark_flag, lamp, carried_count, Fits}
use Rattle.scott_rules.specs.Opcodes.{is_full}
use Rattle.trans_specs.specs.Tables.{bit}
use Rattle.trans_specs.specs.Views.{Shows}
use Rattle.trans_data.specs.Numbers.{byte_or_more, numbers}
use Rattle.trans_data.specs.Routines.{routine_names}
use Rattle.trans_data.proofs.Lists.{entry_before, number_before, flag_there, past_the_end, count_few, under, is_under, not_under, at_most, same_byte, byte_small, bit_nonzero}
use Rattle.trans_data.proofs.Served.{HasAll}

-- ---- `for (i = 0: i < items: i++) if (item-->i == at) n++;`

abbrev count_test : c.Condition
count_test =
    c.Compare Eq (v.Entry (codes "item") true (v.Name (codes "i"))) (v.Name (codes "at"))

abbrev pub item_below : ℕ → c.Condition
item_below items = c.Compare Lt (v.Name (codes "i")) (v.Number items)

abbrev count_loop : ℕ → Loop
count_loop items = for_loop (Some (item_below items)) (Some (t.Inc (codes "i")))
    (t.statements (t.If count_test (t.statements (t.Assign (t.Inc (codes "n")) ∷ [])) t.NoStatements
    ∷ []))

abbrev pub counting : ℕ → ℕ → ℕ → ℕ → Scope
counting r a i n = record {
  directive = r;
  locals = (codes "at", pos a) ∷ (codes "i", pos i) ∷ (codes "n", pos n) ∷ [];
}

abbrev more : ℕ → ℕ → List ℕ → ℕ
more a n xs = fold (λ n x. n + cond (nat_eq x a) 1 0) n xs

-- how many items are at a place
abbrev pub there_count : State → ℕ → ℕ
there_count s a = count_by (λ place. place == a) s.places.items

pub few_items : (db : Database) → KeepsLimits db → length db.items ≤ 255
few_items db limits = at_most (length db.items) 255
    (and_parts (nat_le 1 (length db.items)) (nat_le (length db.items) 255) limits.sizes.items).1

module _ (style : Style) (db : Database) (limits : KeepsLimits db) (p : Program)
    (has : HasAll style db p) (s : State) (w : Stage) (shows : Shows s w) (fits : Fits db s) where
  small : length db.items < 32768
  small = omega (arith, few_items db limits)

  -- `place` returns the place of an item, in at most three steps
  pub place_does : (d item : ℕ)
      → Does p (suc d) (codes "place") (pos item ∷ []) w (pos (place_of s item)) w 3
  unfolding body_of routine_names numbers
  place_does d item = from (nat_lt item (length db.items)) refl where
    from : (b : Bool) → nat_lt item (length db.items) ≡ b
        → Does p (suc d) (codes "place") (pos item ∷ []) w (pos (place_of s item)) w 3
    from true h = does_within (omega arith) (routine has.place (returns (if_true
        (compare (local refl) (valued (small_number p.width small) number) h)
        (returns (return (entry (local refl) shows.places_are
        (number_before s.places.items (shows.guard ∷ []) item
        (subst (λ n. item < n) (sym fits.places.count) (is_under item (length db.items) h))))))))
        by_return)
    from false h = subst (λ x. Does p (suc d) (codes "place") (pos item ∷ []) w (pos x) w 3)
        (past_the_end s.places.items item
        (ap (nat_lt item) fits.places.count ∙ h))
        (does_within (omega arith) (routine has.place (next (if_false
        (compare (local refl) (valued (small_number p.width small) number) h) end)
        (returns return_false)) by_return))

  -- `near` tells whether an item is carried or in the room, in at most eight steps
  pub near_does : (d item : ℕ)
      → Does p (suc (suc d)) (codes "near") (pos item ∷ []) w (pos (bit (is_near s item))) w 8
  unfolding body_of routine_names numbers
  near_does d item = from (place_of s item == 255) (place_of s item == s.room) refl refl where
    from : (a b : Bool) → (place_of s item == 255) ≡ a → (place_of s item == s.room) ≡ b
        → Does p (suc (suc d)) (codes "near") (pos item ∷ []) w (pos (bit (a || b))) w 8
    from true b h k = does_within (omega arith) (routine has.near
        (next (assign (set_variable (call (argument (local refl) (called (place_does d item))))
        refl))
        (returns (if_true (any_of (this_holds
        (compare (local refl) (number)
        (eq_is (place_of s item) 255 ∙ h)))) (returns return_true)))) by_return)
    from false true h k = does_within (omega arith) (routine has.near
        (next (assign (set_variable (call (argument (local refl) (called (place_does d item))))
        refl))
        (returns (if_true (any_of (this_fails
        (compare (local refl) (number)
        (eq_is (place_of s item) 255 ∙ h))
        (this_holds (compare (local refl) (global refl shows.room_is)
        (eq_is (place_of s item) s.room ∙ k))))) (returns return_true)))) by_return)
    from false false h k = does_within (omega arith) (routine has.near
        (next (assign (set_variable (call (argument (local refl) (called (place_does d item))))
        refl))
        (next (if_false (any_of (this_fails
        (compare (local refl) (number)
        (eq_is (place_of s item) 255 ∙ h))
        (this_fails (compare (local refl) (global refl shows.room_is)
        (eq_is (place_of s item) s.room ∙ k)) none_holds))) end)
        (returns return_false))) by_return)

  -- `dark` tells whether it is dark, in at most 14 steps
  pub dark_does : (d : ℕ)
      → Does p (suc (suc (suc d))) (codes "dark") [] w (pos (bit (is_dark s))) w 14
  unfolding body_of routine_names numbers
  dark_does d = from (flag_of s dark_flag) (is_near s lamp) refl refl where
    flag : {b : Bool} → nat_eq (bit (flag_of s dark_flag)) 0 ≡ b
        → Tests p (suc (suc d)) (c.Compare Eq (v.Entry (codes "flag") true (v.Number 15))
        (v.Number 0))
        (record { directive = has.dark.at; locals = [] }) w b w 0
    flag is = compare (entry (number) shows.flags_are
        (flag_there s.flags 15 (omega (arith, fits.flags)))) (number)
        (eq_is (bit (flag_of s dark_flag)) 0 ∙ is)

    lamp_near : {b : Bool} → is_near s lamp ≡ b
        → Tests p (suc (suc d)) (c.Nonzero (v.Call (codes "near") (v.arguments (v.Number 9 ∷ []))))
        (record { directive = has.dark.at; locals = [] }) w b w 9
    lamp_near is = nonzero (call (argument number (called (near_does d 9))))
        (bit_nonzero (is_near s lamp) ∙ is)

    from : (a b : Bool) → flag_of s dark_flag ≡ a → is_near s lamp ≡ b
        → Does p (suc (suc (suc d))) (codes "dark") [] w (pos (bit (a && not b))) w 14
    from false b h k = does_within (omega arith) (routine has.dark (returns (if_true
        (any_of (this_holds (flag (ap (λ a. nat_eq (bit a) 0) h)))) (returns return_false)))
        by_return)
    from true true h k = does_within (omega arith) (routine has.dark (returns (if_true
        (any_of (this_fails (flag (ap (λ a. nat_eq (bit a) 0) h)) (this_holds (lamp_near k))))
        (returns return_false))) by_return)
    from true false h k = does_within (omega arith) (routine has.dark (next (if_false
        (any_of (this_fails (flag (ap (λ a. nat_eq (bit a) 0) h))
        (this_fails (lamp_near k) none_holds)))
        end) (returns return_true)) by_return)

  -- ---- counts

  module _ (d r a : ℕ) where
    -- from this item on, with so many before it that are there
    abbrev Counts : ℕ → ℕ → ℕ → ℕ → Type 0
    Counts i n all most = Loops p d (count_loop (length db.items)) (counting r a i n) w Normal
        (counting r a (length db.items) all) w most

    loop : (rest : List ℕ) (i n : ℕ) → drop i s.places.items ≡ rest
        → i + length rest ≡ length db.items → n ≤ i
        → Counts i n (more a n rest) (3 * length rest + 1)
    loop [] i n left all few = subst (λ i. Counts i n n 1) done
        (for_ends (compare (local refl) (valued (small_number p.width small) number) over)) where
          done : length db.items ≡ i
          done = omega (arith, all)

          over : nat_lt (length db.items) (length db.items) ≡ false
          over = not_under (length db.items)
    loop (x ∷ rest) i n left all few = from (nat_eq x a) refl
        (λ m h. loop rest (i + 1) m (after_rest s.places.items i left) (omega (arith, all)) h) where
          before : nat_lt i (length db.items) ≡ true
          before = under i (length db.items) (omega (arith, all))

          on : Tests p d (item_below (length db.items)) (counting r a i n) w true w 0
          on = compare (local refl) (valued (small_number p.width small) number) before

          there : {b : Bool} → nat_eq x a ≡ b → Tests p d count_test (counting r a i n) w b w 0
          there is = compare (entry (local refl) shows.places_are
              (entry_before pos s.places.items _ i left)) (local refl) (eq_is x a ∙ is)

          from : (b : Bool) → nat_eq x a ≡ b
              → ((m : ℕ) → m ≤ i + 1 → Counts (i + 1) m (more a m rest) (3 * length rest + 1))
              → Counts i n (more a (n + cond b 1 0) rest) (3 * length (x ∷ rest) + 1)
          from true is after = within (omega arith) (for_once_more on
              (next (if_true (there is)
              (next (assign (increment refl (counted_up p.width n
              (omega (arith, few, all, small)))))
              end)) end)
              (increment refl (counted_up p.width i (omega (arith, all, small))))
              (after (n + 1) (omega (arith, few))))
          from false is after = within (omega arith) (for_once_more on
              (next (if_false (there is) end) end)
              (increment refl (counted_up p.width i (omega (arith, all, small))))
              (subst (λ m. Counts (i + 1) n (more a m rest) (3 * length rest + 1))
              (sym (add-zero n))
              (after n (omega (arith, few)))))

  pub count_does : (d a : ℕ) → Does p (suc d) (codes "count_at") (pos a ∷ []) w
      (pos (there_count s a)) w (3 * length db.items + 3)
  unfolding body_of routine_names numbers
  count_does d a = does_within (omega (arith, fits.places.count)) (routine has.count
      (next (for (set_variable number refl)
      (loop d has.count.at a s.places.items 0 0 refl (omega (arith, fits.places.count))
      (omega arith)))
      (returns (return (local refl)))) by_return)

  pub carried_does : (d : ℕ) → Does p (suc (suc d)) (codes "carried") [] w
      (pos (carried_count s)) w (3 * length db.items + 5)
  unfolding body_of routine_names numbers
  carried_does d = does_within (omega arith) (routine has.carried
      (returns (return (call (argument number (called (count_does d 255)))))) by_return)

  pub few_there : (a : ℕ) → there_count s a ≤ 255
  few_there a = omega (
    arith,
    count_few (λ place. place == a) s.places.items 0,
    fits.places.count,
    few_items db limits,
  )

  -- `full` tells whether as many items are carried as can be, in at most three steps for each item
  -- and nine more
  pub full_does : (d : ℕ) → Does p (suc (suc (suc d))) (codes "full") [] w
      (pos (bit (is_full db s))) w (3 * length db.items + 9)
  unfolding body_of routine_names numbers
  full_does d = from (is_full db s) refl where
    full : {b : Bool} → is_full db s ≡ b
        → nat_eq (carried_count s) (byte_or_more db.header.carry) ≡ b
    full is = same_byte (carried_count s) db.header.carry (few_there 255) ∙ is

    from : (b : Bool) → is_full db s ≡ b
        → Does p (suc (suc (suc d))) (codes "full") [] w (pos (bit b)) w (3 * length db.items + 9)
    from true h = does_within (omega arith) (routine has.full (returns (if_true
        (compare (call (called (carried_does d)))
        (valued (small_number p.width (byte_small db.header.carry)) number)
        (eq_is (carried_count s) (byte_or_more db.header.carry) ∙ full h))
        (returns return_true))) by_return)
    from false h = does_within (omega arith) (routine has.full (next (if_false
        (compare (call (called (carried_does d)))
        (valued (small_number p.width (byte_small db.header.carry)) number)
        (eq_is (carried_count s) (byte_or_more db.header.carry) ∙ full h)) end)
        (returns return_false)) by_return)

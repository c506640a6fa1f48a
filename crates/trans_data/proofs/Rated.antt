-- What the score says.
use Rattle.std.proofs.Common.{◌≡◌, ◌∙◌, arith, ℕ, zero, suc, ◌+◌, ◌*◌, ◌/◌, ◌<◌, ◌≤◌, ℤ, pos, negsuc, neg_ℤ, int_lt, nat_eq, nat_lt, ◌&&◌, not, Bool, true, false, if◌then◌else◌, List, [], ◌∷◌, ◌++◌, length, codes, decimal, refl, sym, ap, subst, div-le_self}
use Rattle.std.proofs.Math.Nat.{div-eq_of_lt}
use Rattle.std.specs.Ordering.{int_eq}
use Rattle.std.specs.Fmt.{signed_decimal}
use Rattle.std.proofs.lemmas.List.Sums.{count_by-le-length}
use Rattle.std.specs.Prelude.{zip, unsigned_abs}
use Rattle.inform_meaning.specs.Worlds.{Program}
use Rattle.inform_logic.specs.Stages.{Stage, said}
use Rattle.inform_logic.specs.Leading.{Does, by_return}
use Rattle.inform_logic.specs.Holding.{Has}
use Rattle.inform_logic.proofs.Words.{IsWord, not_zero, small_word, negative_word, small_number, small_product, small_quotient, negation_is, eq_is}
use Rattle.inform_logic.proofs.Values.{valued, number, local, negation, product_of_two, argument, called, call}
use Rattle.inform_logic.proofs.Conditions.{compare}
use Rattle.inform_logic.proofs.Changes.{set_variable}
use Rattle.inform_logic.proofs.Printing.{print_nothing, print_text, print_number, said_nothing, said_twice}
use Rattle.inform_logic.proofs.Statements.{end, next, returns, assign, print, return, return_true, return_false, if_true, if_false}
use Rattle.inform_logic.proofs.Routines.{does_within, routine}
use Rattle.inform_codes.specs.Grown.{body_of}
use Rattle.scott_types.specs.declared.parts.Item.{Item}
use Rattle.scott_types.specs.declared.phrases.Phrase.TheVariants.{Stored, Rating, WellDone, GameOver, ListEnd}
use Rattle.scott_types.specs.declared.states.State.{State}
use Rattle.scott_types.specs.declared.styles.Style.{Style}
use Rattle.scott_types.specs.Database.{Database}
use Rattle.scott_types.specs.Limits.{KeepsLimits}
use Rattle.scott_types.specs.Phrase.{text_of, text_in}
use Rattle.scott_types.specs.State.{Fits}
use Rattle.scott_types.specs.Style.{in_style}
use Rattle.scott_rules.specs.Looking.{is_stored, stored_count, rate, is_full_score, all_stored, score_around, scored}
use Rattle.trans_specs.specs.Tables.{bit}
use Rattle.trans_specs.specs.Views.{Shows}
use Rattle.trans_specs.specs.Standing.{HasTables}
use Rattle.trans_data.specs.declared.names.TheConstants as n
use Rattle.trans_data.specs.declared.scoring.TheConstants as h
use Rattle.trans_data.specs.Numbers.{byte_or_more, divisor, goal, numbers}
use Rattle.trans_data.specs.Routines.{routine_names}
use Rattle.trans_data.proofs.Lists.{same_byte, byte_small}
use Rattle.trans_data.proofs.Served.{HasAll, tree}
use Rattle.trans_data.proofs.Places.{few_items}
use Rattle.trans_data.proofs.Scored.{stored_does}

-- ---- numbers

-- a size that divides is that of the treasures, or greater than all hundreds
abbrev by_size : ℕ → ℕ
by_size size = if nat_lt 0 size && nat_lt size 32768 then size else 32767

pub size_range : (size : ℕ) → (0 < by_size size) × (by_size size < 32768)
size_range size = from (nat_lt 0 size) (nat_lt size 32768) refl refl where
  from : (a b : Bool) → nat_lt 0 size ≡ a → nat_lt size 32768 ≡ b
      → (0 < (if a && b then size else 32767)) × ((if a && b then size else 32767) < 32768)
  from true true h k = (grind (arith, h), grind (arith, k))
  from true false h k = (omega arith, omega arith)
  from false b h k = (omega arith, omega arith)

-- it divides as the size does, where the size isn't 0
same_quotient : (a size : ℕ) → a < 32767 → 0 < size → a / by_size size ≡ a / size
same_quotient a size few some = from (nat_lt size 32768) refl where
  positive : nat_lt 0 size ≡ true
  positive = grind (arith, some)

  by : (b : Bool) → nat_lt size 32768 ≡ b
      → a / (if b then size else 32767) ≡ a / size
  by true h = refl
  by false h =
      let less : a < size = grind (arith, few, h) in div-eq_of_lt few ∙ sym (div-eq_of_lt less)

  from : (b : Bool) → nat_lt size 32768 ≡ b
      → a / (if nat_lt 0 size && nat_lt size 32768 then size else 32767) ≡ a / size
  from b h = ap (λ c. a / (if c && nat_lt size 32768 then size else 32767)) positive
      ∙ by (nat_lt size 32768) refl

-- what divides, sign aside, gives the rate
no_less : (stored m : ℕ) → stored ≤ 255
    → pos (stored * 100 / divisor (pos m)) ≡ rate (pos m) stored
no_less stored zero few = ap pos (div-eq_of_lt small) where
  small : stored * 100 < 32767
  small = omega (arith, few)
no_less stored (suc m) few =
    ap pos (same_quotient (stored * 100) (suc m) (omega (arith, few)) (omega arith))
    ∙ ap (λ (b : Bool). if b then pos 0 else pos (stored * 100 / suc m))
    (sym (not_zero (suc m) (omega arith)))

less_than_none : (stored m : ℕ) → stored ≤ 255
    → neg_ℤ (pos (stored * 100 / divisor (negsuc m))) ≡ rate (negsuc m) stored
less_than_none stored m few = ap (λ (q : ℕ). neg_ℤ (pos q))
    (same_quotient (stored * 100) (suc m) (omega (arith, few)) (omega arith))

-- a negated number is a word
negative : (q : ℕ) → q < 32768 → IsWord (neg_ℤ (pos q))
negative zero few = small_word (omega arith)
negative (suc q) few = negative_word (omega (arith, few))

-- so many treasures are all exactly where they are as many as the number that stands for all
same_goal : (stored : ℕ) (treasures : ℤ) → stored ≤ 255
    → nat_eq stored (goal treasures) ≡ is_full_score treasures stored
same_goal stored treasures few = from (int_eq treasures (pos 0)) where
  never : nat_eq stored 256 ≡ false
  never = grind (arith, few)

  from : (b : Bool) → nat_eq stored (if b then 256 else byte_or_more treasures)
      ≡ (not b && int_eq (pos stored) treasures)
  from true = never
  from false = same_byte stored treasures few

pub goal_small : (treasures : ℤ) → goal treasures < 32768
goal_small treasures = from (int_eq treasures (pos 0)) where
  from : (b : Bool) → (if b then 256 else byte_or_more treasures) < 32768
  from true = omega arith
  from false = byte_small treasures

not_below : (m : ℕ) → int_lt (pos m) (pos 0) ≡ false
not_below m = grind arith

-- ---- texts

five : (a b c d e : List ℕ) (w : Stage)
    → said e (said d (said c (said b (said a w)))) ≡ said (a ++ (b ++ (c ++ (d ++ e)))) w
five a b c d e w = said_twice d e (said c (said b (said a w)))
    ∙ said_twice c (d ++ e) (said b (said a w)) ∙ said_twice b (c ++ (d ++ e)) (said a w)
    ∙ said_twice a (b ++ (c ++ (d ++ e))) w

module _ (style : Style) (db : Database) (limits : KeepsLimits db) (p : Program)
    (has : HasAll style db p) where
  -- the hundredths of a count
  hundredths_do : (d stored : ℕ) (w : Stage) → stored ≤ 255
      → Does p (suc d) (codes "hundredths") (pos stored ∷ []) w
      (rate db.header.treasures stored) w 1
  unfolding body_of routine_names numbers
  hundredths_do d stored w few = from db.header.treasures refl where
    range : (0 < divisor db.header.treasures) × (divisor db.header.treasures < 32768)
    range = size_range (unsigned_abs db.header.treasures)

    less : stored * 100 / divisor db.header.treasures < 32768
    less = under (div-le_self (stored * 100) (divisor db.header.treasures)) where
      under : {q : ℕ} → q ≤ stored * 100 → q < 32768
      under h = omega (arith, h, few)

    from : (z : ℤ) → db.header.treasures ≡ z → Does p (suc d) (codes "hundredths")
        (pos stored ∷ []) w (rate z stored) w 1
    from (pos m) is = subst (λ v. Does p (suc d) (codes "hundredths") (pos stored ∷ []) w v w 1)
        (ap (λ z. pos (stored * 100 / divisor z)) is ∙ no_less stored m few)
        (routine own (returns (return (product_of_two (product_of_two (local refl) number
        (small_product p.width stored 100 (omega (arith, few))))
        (valued (small_number p.width range.1) number)
        (small_quotient p.width (stored * 100) (divisor db.header.treasures) (omega (arith, few))
        range.0)))) by_return) where
          own : Has p (tree style db n.HUNDREDTHS_NAME (n.N ∷ []) h.HUNDREDTHS)
          own = subst (λ (b : Bool). Has p (tree style db n.HUNDREDTHS_NAME (n.N ∷ [])
              (if b then h.LESS_HUNDREDTHS else h.HUNDREDTHS)))
              (ap (λ z. int_lt z (pos 0)) is ∙ not_below m) has.hundredths
    from (negsuc m) is = subst (λ v. Does p (suc d) (codes "hundredths") (pos stored ∷ []) w v w 1)
        (ap (λ z. neg_ℤ (pos (stored * 100 / divisor z))) is ∙ less_than_none stored m few)
        (routine own (returns (return (negation (product_of_two (product_of_two (local refl) number
        (small_product p.width stored 100 (omega (arith, few))))
        (valued (small_number p.width range.1) number)
        (small_quotient p.width (stored * 100) (divisor db.header.treasures) (omega (arith, few))
        range.0))
        (negation_is p.width (pos (stored * 100 / divisor db.header.treasures))
        (negative _ less)))))
        by_return) where
          own : Has p (tree style db n.HUNDREDTHS_NAME (n.N ∷ []) h.LESS_HUNDREDTHS)
          own = subst (λ (b : Bool). Has p (tree style db n.HUNDREDTHS_NAME (n.N ∷ [])
              (if b then h.LESS_HUNDREDTHS else h.HUNDREDTHS)))
              (ap (λ z. int_lt z (pos 0)) is) has.hundredths

  abbrev hundredths : State → ℤ
  hundredths s = rate db.header.treasures (stored_count db s)

  module _ (s : State) (w : Stage) (shows : Shows s w) (fits : Fits db s) (tables : HasTables db w)
    where
      few_stored : stored_count db s ≤ 255
      few_stored = omega (
        arith,
        count_by-le-length (λ (pair : Item × ℕ). is_stored db.header.home pair.0 pair.1)
            (zip db.items s.places.items),
        zipped db.items s.places.items,
        few_items db limits,
      ) where
        zipped : (xs : List Item) (ys : List ℕ) → length (zip xs ys) ≤ length xs
        zipped [] ys = omega arith
        zipped (x ∷ xs) [] = omega arith
        zipped (x ∷ xs) (y ∷ ys) = omega (arith, zipped xs ys)

      pub score_does : (d : ℕ) → Does p (suc (suc d)) (codes "score") []
          w (pos (bit (all_stored db s))) (said (scored (in_style style db) s) w)
          (3 * length db.items + 20)
      unfolding body_of routine_names numbers
      score_does d = from (all_stored db s) refl where
        full : {b : Bool} → all_stored db s ≡ b
            → nat_eq (stored_count db s) (goal db.header.treasures) ≡ b
        full is = same_goal (stored_count db s) db.header.treasures few_stored ∙ is

        texts : (rest : List ℕ) → said rest
            (said (text_of ListEnd) (said (signed_decimal (hundredths s))
            (said (text_of Rating) (said (decimal (stored_count db s))
            (said (text_in style Stored) w)))))
            ≡ said (text_in style Stored ++ (decimal (stored_count db s) ++ (text_of Rating
            ++ (signed_decimal (hundredths s) ++ (text_of ListEnd ++ rest))))) w
        texts rest = said_twice (text_of ListEnd) rest (said (signed_decimal (hundredths s))
            (said (text_of Rating) (said (decimal (stored_count db s))
            (said (text_in style Stored) w))))
            ∙ five (text_in style Stored) (decimal (stored_count db s)) (text_of Rating)
            (signed_decimal (hundredths s)) (text_of ListEnd ++ rest) w

        from : (b : Bool) → all_stored db s ≡ b → Does p (suc (suc d)) (codes "score") [] w
            (pos (bit b))
            (said (score_around style (decimal (stored_count db s))
            (signed_decimal (hundredths s)) b) w)
            (3 * length db.items + 20)
        from true is = subst (λ w'. Does p (suc (suc d)) (codes "score") [] w (pos 1) w'
            (3 * length db.items + 20))
            (said_twice (text_of WellDone) (text_of GameOver) _
            ∙ texts (text_of WellDone ++ text_of GameOver))
            (does_within (omega arith) (routine has.score
            (next (assign (set_variable
            (call (called (stored_does style db limits p has s w shows fits tables d))) refl))
            (next (print (print_text print_nothing))
            (next (print (print_number (local refl) print_nothing))
            (next (print (print_text print_nothing))
            (next (print (print_number
            (call (argument (local refl) (called
            (hundredths_do d (stored_count db s) _ few_stored))))
            print_nothing))
            (next (print (print_text print_nothing))
            (returns (if_true (compare (local refl)
            (valued (small_number p.width (goal_small db.header.treasures)) number)
            (eq_is (stored_count db s) (goal db.header.treasures) ∙ full is))
            (next (print (print_text print_nothing)) (next (print (print_text print_nothing))
            (returns return_true)))))))))))
            by_return))
        from false is = subst (λ w'. Does p (suc (suc d)) (codes "score") [] w (pos 0) w'
            (3 * length db.items + 20))
            (sym (said_nothing _) ∙ texts [])
            (does_within (omega arith) (routine has.score
            (next (assign (set_variable
            (call (called (stored_does style db limits p has s w shows fits tables d))) refl))
            (next (print (print_text print_nothing))
            (next (print (print_number (local refl) print_nothing))
            (next (print (print_text print_nothing))
            (next (print (print_number
            (call (argument (local refl) (called
            (hundredths_do d (stored_count db s) _ few_stored))))
            print_nothing))
            (next (print (print_text print_nothing))
            (next (if_false (compare (local refl)
            (valued (small_number p.width (goal_small db.header.treasures)) number)
            (eq_is (stored_count db s) (goal db.header.treasures) ∙ full is)) end)
            (returns return_false))))))))
            by_return))

-- The routines that list the items at a place and the exits of the room.
use Rattle.std.proofs.Common.{◌≡◌, ◌∙◌, arith, ℕ, zero, suc, ◌+◌, ◌*◌, ◌<◌, ℤ, pos, nat_eq, ◌==◌, not, Bool, true, false, if◌then◌else◌, List, [], ◌∷◌, ◌++◌, map, length, drop, slice_index_or, codes, Some, refl, sym, ap, subst, subst₂}
use Rattle.std.specs.Ordering.{int_eq}
use Rattle.inform_tree.specs.declared.conditions.Relation.TheVariants.{Eq}
use Rattle.inform_tree.specs.Values as v
use Rattle.inform_tree.specs.Conditions as c
use Rattle.inform_tree.specs.Statements as t
use Rattle.inform_meaning.specs.Worlds.{Program, Scope}
use Rattle.inform_meaning.specs.Tables.{found}
use Rattle.inform_meaning.specs.Frames.{Loop, Normal}
use Rattle.inform_meaning.specs.Statements.{for_loop}
use Rattle.inform_logic.specs.Stages.{Stage, said}
use Rattle.inform_logic.specs.Leading.{Tests, Loops, Executes, Does, by_return}
use Rattle.inform_logic.proofs.Lists.{after_rest}
use Rattle.inform_logic.proofs.Words.{small_number, counted_up, eq_is, equal_is}
use Rattle.inform_logic.proofs.Values.{within, valued, number, local, entry, argument, called}
use Rattle.inform_logic.proofs.Conditions.{compare, nonzero}
use Rattle.inform_logic.proofs.Changes.{set_variable, increment}
use Rattle.inform_logic.proofs.Printing.{print_nothing, print_text, said_nothing, said_twice}
use Rattle.inform_logic.proofs.Statements.{end, next, returns, assign, print, call_alone, return_true, if_true, if_false}
use Rattle.inform_logic.proofs.Loops.{for, for_once_more, for_ends}
use Rattle.inform_logic.proofs.Routines.{does_within, routine}
use Rattle.inform_codes.specs.Grown.{body_of}
use Rattle.adv_io.specs.Text.{joined}
use Rattle.scott_types.specs.declared.parts.Item.{Item}
use Rattle.scott_types.specs.declared.phrases.Phrase.TheVariants.{BetweenItems}
use Rattle.scott_types.specs.declared.states.State.{State}
use Rattle.scott_types.specs.declared.styles.Style.{Style}
use Rattle.scott_types.specs.Database.{Database}
use Rattle.scott_types.specs.Limits.{KeepsLimits}
use Rattle.scott_types.specs.ItemText.{shown}
use Rattle.scott_types.specs.Phrase.{text_of}
use Rattle.scott_types.specs.State.{Fits}
use Rattle.scott_rules.specs.Looking.{items_at, items_at_place}
use Rattle.trans_specs.specs.Views.{naturals, Shows}
use Rattle.trans_data.specs.Numbers.{numbers}
use Rattle.trans_data.specs.Routines.{routine_names}
use Rattle.trans_data.proofs.Lists.{entry_before, under, not_under}
use Rattle.trans_data.proofs.Served.{HasAll}
use Rattle.trans_data.proofs.Places.{item_below, counting, few_items}
use Rattle.trans_data.proofs.HelpersMet.{item_does}
use Rattle.trans_data.proofs.Chosen.{with_first, chosen_first, rest_joined, all_joined}

-- ---- `if (n) print "..";`

abbrev pub separated : List ℕ → t.Statement
separated separator = t.If (c.Nonzero (v.Name (codes "n")))
    (t.statements (t.Print (t.Text separator ∷ []) ∷ [])) t.NoStatements

-- the statement says the separator where `n` isn't 0, in at most two steps
pub separator_said : {p : Program} {d : ℕ} {s : Scope} (separator : List ℕ) (n : ℕ) (w : Stage)
    → found (codes "n") s.locals ≡ Some (pos n)
    → Executes p d (separated separator) s w Normal s
    (said (if nat_eq n 0 then [] else separator) w)
    2
separator_said {p} {d} {s} separator n w there = from (nat_eq n 0) refl where
  nothing : {b : Bool} → nat_eq n 0 ≡ b → not (int_eq (pos n) (pos 0)) ≡ not b
  nothing is = ap not (equal_is n 0 ∙ is)

  from : (b : Bool) → nat_eq n 0 ≡ b → Executes p d (separated separator) s w Normal s
      (said (if b then [] else separator) w) 2
  from true is = subst (λ w'. Executes p d (separated separator) s w Normal s w' 2)
      (sym (said_nothing w)) (within (omega arith)
      (if_false (nonzero (local there) (nothing is)) end))
  from false is = if_true (nonzero (local there) (nothing is))
      (next (print (print_text print_nothing)) end)

-- whether one was said, as a number, after texts
abbrev pub last_said : ℕ → List (List ℕ) → ℕ
last_said n [] = n
last_said n (text ∷ texts) = last_said 1 texts

pub some_said : (texts : List (List ℕ)) → nat_eq (last_said 1 texts) 0 ≡ false
some_said [] = refl
some_said (text ∷ texts) = some_said texts

-- a separator, a text and the rest
pub in_turn : (separator text rest : List ℕ) (w : Stage)
    → said rest (said text (said separator w)) ≡ said (separator ++ (text ++ rest)) w
in_turn separator text rest w =
    said_twice text rest (said separator w) ∙ said_twice separator (text ++ rest) w

pub at_rest : {X : Type 0} (xs : List X) (i : ℕ) (none : X) {x : X} {rest : List X}
    → drop i xs ≡ x ∷ rest → x ≡ slice_index_or xs i none
at_rest [] zero none h = cc
at_rest [] (suc i) none h = cc
at_rest (y ∷ ys) zero none h = cc
at_rest (y ∷ ys) (suc i) none h = at_rest ys i none h

pub map_at_rest : {X : Type 0} (f : X → List ℕ) (xs : List X) (i : ℕ) {x : X} {rest : List X}
    → drop i xs ≡ x ∷ rest → slice_index_or (map f xs) i [] ≡ f x
map_at_rest f [] zero h = cc
map_at_rest f [] (suc i) h = cc
map_at_rest f (y ∷ ys) zero {x} {rest} h = ap (λ ls. slice_index_or (map f ls) 0 []) h
map_at_rest f (y ∷ ys) (suc i) h = map_at_rest f ys i h

-- ---- the items at a place

abbrev is_at : c.Condition
is_at = c.Compare Eq (v.Entry (codes "item") true (v.Name (codes "i"))) (v.Name (codes "at"))

abbrev pub said_by : List ℕ → List ℕ → t.Statements
said_by separator name = t.statements (separated separator
    ∷ t.Call name (v.arguments (v.Name (codes "i") ∷ []))
    ∷ t.Assign (t.Set (codes "n") (v.Number 1)) ∷ [])

abbrev items_loop : ℕ → Loop
items_loop items = for_loop (Some (item_below items)) (Some (t.Inc (codes "i")))
    (t.statements (t.If is_at (said_by (text_of BetweenItems) (codes "say_item")) t.NoStatements
    ∷ []))

module _ (style : Style) (db : Database) (limits : KeepsLimits db) (p : Program)
    (has : HasAll style db p) (s : State) (fits : Fits db s) where
  abbrev entries : ℤ → List ℤ
  entries guard = naturals s.places.items ++ guard ∷ []

  abbrev chosen_items : ℕ → List Item → List ℕ → List (List ℕ)
  chosen_items a xs ys = items_at_place xs ys a

  few : length db.items < 32768
  few = omega (arith, few_items db limits)

  module _ (d r a : ℕ) (guard : ℤ) where
    -- from item i on, where these texts are to come
    abbrev Lists : ℕ → ℕ → Stage → List (List ℕ) → ℕ → Type 0
    Lists i n w texts most = Loops p (suc d) (items_loop (length db.items)) (counting r a i n) w
        Normal (counting r a (length db.items) (last_said n texts))
        (said (rest_joined (text_of BetweenItems) n texts) w) most

    items_listed : (xs : List Item) (ys : List ℕ) (i n : ℕ) (w : Stage)
        → w.arrays (codes "item") ≡ Some (entries guard) → drop i db.items ≡ xs
        → drop i s.places.items ≡ ys → i + length xs ≡ length db.items → length ys ≡ length xs
        → Lists i n w (chosen_items a xs ys) (10 * length xs + 1)
    items_listed [] [] i n w there left also all same =
        let done : length db.items ≡ i = omega (arith, all) in
        subst₂ (λ i w'. Loops p (suc d) (items_loop (length db.items)) (counting r a i n) w Normal
        (counting r a (length db.items) n) w' 1) done (sym (said_nothing w))
        (for_ends (compare (local refl) (valued (small_number p.width few) number)
        (not_under (length db.items))))
    items_listed [] (y ∷ ys) i n w there left also all same = absurd (omega (arith, same))
    items_listed (x ∷ xs) [] i n w there left also all same = absurd (omega (arith, same))
    items_listed (x ∷ xs) (y ∷ ys) i n w there left also all same =
        subst (λ texts. Lists i n w texts (10 * length (x ∷ xs) + 1))
        (sym (chosen_first (λ at. at == a) (λ (item : Item). shown item.text) x xs y ys))
        (from (y == a) refl (λ m w' h. items_listed xs ys (i + 1) m w' h
        (after_rest db.items i left) (after_rest s.places.items i also) (omega (arith, all))
        (omega (arith, same)))) where
          texts : List (List ℕ)
          texts = chosen_items a xs ys

          on : Tests p (suc d) (item_below (length db.items)) (counting r a i n) w true w 0
          on = compare (local refl) (valued (small_number p.width few) number)
              (under i (length db.items) (omega (arith, all)))

          up : (n : ℕ) → i + 1 < 32768
          up n = omega (arith, all, few)

          here : {b : Bool} → nat_eq y a ≡ b → Tests p (suc d) is_at (counting r a i n) w b w 0
          here is = compare (entry (local refl) there
              (entry_before pos s.places.items (guard ∷ []) i also)) (local refl) (eq_is y a ∙ is)

          says : (w : Stage) → Does p (suc d) (codes "say_item") (pos i ∷ []) w (pos 1)
              (said (shown x.text) w) 2
          says w = subst (λ (item : Item). Does p (suc d) (codes "say_item") (pos i ∷ []) w (pos 1)
              (said (shown item.text) w) 2)
              (sym (at_rest db.items i (record { text = []; place = 0 }) left))
              (item_does style db p d i w limits has (omega (arith, all)))

          from : (b : Bool) → (y == a) ≡ b
              → ((m : ℕ) (w : Stage) → w.arrays (codes "item") ≡ Some (entries guard)
              → Lists (i + 1) m w texts (10 * length xs + 1))
              → Lists i n w (with_first (λ at. at == a)
              (λ (item : Item). shown item.text) b x texts)
              (10 * length (x ∷ xs) + 1)
          from true is more = subst (λ w'. Loops p (suc d) (items_loop (length db.items))
              (counting r a i n) w Normal (counting r a (length db.items) (last_said 1 texts)) w'
              (10 * length (x ∷ xs) + 1))
              (in_turn (if nat_eq n 0 then [] else text_of BetweenItems) (shown x.text)
              (rest_joined (text_of BetweenItems) 1 texts) w)
              (within (omega arith) (for_once_more on (next (if_true (here is)
              (next (separator_said (text_of BetweenItems) n w refl)
              (next (call_alone (argument (local refl) (called (says _))))
              (next (assign (set_variable number refl)) end)))) end)
              (increment refl (counted_up p.width i (up n)))
              (more 1 _ there)))
          from false is more = within (omega arith) (for_once_more on
              (next (if_false (here is) end) end) (increment refl (counted_up p.width i (up n)))
              (more n w there))

  pub list_does : (d a : ℕ) (w : Stage) → Shows s w → Does p (suc (suc d)) (codes "list_items")
      (pos a ∷ []) w (pos 1) (said (joined (text_of BetweenItems) (items_at db s a)) w)
      (10 * length db.items + 4)
  unfolding body_of routine_names numbers
  list_does d a w shows = subst (λ bytes. Does p (suc (suc d)) (codes "list_items") (pos a ∷ []) w
      (pos 1) (said bytes w) (10 * length db.items + 4))
      (all_joined (text_of BetweenItems) (items_at db s a))
      (does_within (omega arith) (routine has.list_items (next (for (set_variable number refl)
      (items_listed d has.list_items.at a shows.guard db.items s.places.items 0 0 w shows.places_are
      refl refl (omega arith) fits.places.count)) (returns return_true)) by_return))

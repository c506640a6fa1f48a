-- What a look and the inventory say.
use Rattle.std.proofs.Common.{◌≡◌, ◌∙◌, arith, ℕ, suc, ◌+◌, ◌*◌, ◌<◌, pos, nat_eq, ◌==◌, not, Bool, true, false, if◌then◌else◌, List, [], ◌∷◌, ◌++◌, length, codes, Some, refl, sym, ap, subst}
use Rattle.std.specs.Ordering.{int_eq}
use Rattle.std.proofs.lemmas.List.{length-map}
use Rattle.inform_tree.specs.declared.conditions.Relation.TheVariants.{Eq}
use Rattle.inform_tree.specs.Values as v
use Rattle.inform_tree.specs.Conditions as c
use Rattle.inform_tree.specs.Statements as t
use Rattle.inform_meaning.specs.Worlds.{Program, Scope}
use Rattle.inform_meaning.specs.Frames.{Normal}
use Rattle.inform_logic.specs.Stages.{Stage, said}
use Rattle.inform_logic.specs.Leading.{Executes, Tests, Does, by_return}
use Rattle.inform_logic.proofs.Words.{eq_is, equal_is}
use Rattle.inform_logic.proofs.Values.{within, number, global, argument, called, call}
use Rattle.inform_logic.proofs.Conditions.{compare, nonzero}
use Rattle.inform_logic.proofs.Printing.{print_nothing, print_text, said_nothing, said_twice}
use Rattle.inform_logic.proofs.Statements.{end, next, returns, print, call_alone, return_true, if_true, if_false}
use Rattle.inform_logic.proofs.Routines.{does_within, routine}
use Rattle.inform_codes.specs.Grown.{body_of}
use Rattle.adv_io.specs.Text.{joined, joined_or}
use Rattle.scott_types.specs.declared.parts.Item.{Item}
use Rattle.scott_types.specs.declared.parts.Room.{Room}
use Rattle.scott_types.specs.declared.phrases.Phrase.TheVariants.{TooDark, ObviousExits, NoExits, BetweenExits, ListEnd, AlsoSee, BetweenItems, CarryingList, NothingCarried, Newline}
use Rattle.scott_types.specs.declared.states.State.{State}
use Rattle.scott_types.specs.declared.styles.Style.{Style}
use Rattle.scott_types.specs.Database.{Database, room_at}
use Rattle.scott_types.specs.Limits.{KeepsLimits}
use Rattle.scott_types.specs.ItemText.{shown}
use Rattle.scott_types.specs.Phrase.{text_of, text_in}
use Rattle.scott_types.specs.Style.{in_style}
use Rattle.scott_types.specs.State.{is_dark, carried_place, Fits}
use Rattle.scott_rules.specs.Looking.{described, exit_names, exits_listed, items_at, items_seen, seen_in_light, looked, inventory}
use Rattle.trans_specs.specs.Views.{Shows}
use Rattle.trans_specs.specs.Standing.{HasTables}
use Rattle.trans_data.specs.Routines.{routine_names}
use Rattle.trans_data.specs.Texts.{room_texts}
use Rattle.trans_data.proofs.Lists.{is_under, bit_nonzero}
use Rattle.trans_data.proofs.Served.{HasAll}
use Rattle.trans_data.proofs.Places.{dark_does, count_does, there_count}
use Rattle.trans_data.proofs.Spoken.{at_map, text_does}
use Rattle.trans_data.proofs.Chosen.{chosen_count, rest_joined, all_joined}
use Rattle.trans_data.proofs.Listed.{last_said, some_said, list_does}
use Rattle.trans_data.proofs.Exits.{few_rooms, exits_do}

some_there : {X : Type 0} (x : X) (xs : List X) → not (nat_eq (length (x ∷ xs)) 0) ≡ true
some_there x xs = grind arith

-- three texts one after the other
pub said_three : (a b c : List ℕ) (w : Stage) → said c (said b (said a w)) ≡ said (a ++ (b ++ c)) w
said_three a b c w = said_twice b c (said a w) ∙ said_twice a (b ++ c) w

module _ (style : Style) (db : Database) (limits : KeepsLimits db) (p : Program)
    (has : HasAll style db p) (s : State) (fits : Fits db s) where
  -- how the room is described
  room_does : (d : ℕ) (w : Stage) → Does p (suc d) (codes "say_room") (pos s.room ∷ []) w (pos 1)
      (said (described style (room_at db s.room).text) w) 2
  room_does d w =
      subst (λ bytes. Does p (suc d) (codes "say_room") (pos s.room ∷ []) w (pos 1)
      (said bytes w) 2)
      (at_map (λ (room : Room). described style room.text) db.rooms s.room
      (record { exits = []; text = [] }) in_room)
      (text_does (codes "say_room") (room_texts style db) d s.room w has.say_room
      (omega (arith, in_room, many)) (omega (arith, few_rooms db limits, many))) where
        in_room : s.room < length db.rooms
        in_room = is_under s.room (length db.rooms) fits.rooms.room

        many : length (room_texts style db) ≡ length db.rooms
        many = length-map db.rooms _

  -- as many items are at a place as texts are listed
  count_is : (a : ℕ) → there_count s a ≡ length (items_at db s a)
  count_is a = chosen_count (λ at. at == a) (λ (item : Item). shown item.text) db.items
      s.places.items 0 fits.places.count ∙ omega arith

  module _ (d r : ℕ) where
    abbrev scope : Scope
    scope = record { directive = r; locals = [] }

    -- ---- `if (list_exits() == 0) print "none";`

    abbrev exits_choice : t.Statement
    exits_choice = t.If (c.Compare Eq (v.Call (codes "list_exits") v.NoArguments) (v.Number 0))
        (t.statements (t.Print (t.Text (text_of NoExits) ∷ []) ∷ [])) t.NoStatements

    exits_chosen : (w : Stage) (names : List (List ℕ))
        → Does p (suc (suc d)) (codes "list_exits") [] w (pos (last_said 0 names))
        (said (rest_joined (text_of BetweenExits) 0 names) w) 64
        → Executes p (suc (suc d)) exits_choice scope w Normal scope
        (said (joined_or (text_of NoExits) (text_of BetweenExits) names) w) 67
    exits_chosen w [] does = subst (λ w'. Executes p
        (suc (suc d)) exits_choice scope w Normal scope w' 67)
        (ap (said (text_of NoExits)) (said_nothing w))
        (within (omega arith) (if_true (compare (call (called does)) number refl)
        (next (print (print_text print_nothing)) end)))
    exits_chosen w (x ∷ xs) does =
        subst (λ bytes. Executes p (suc (suc d)) exits_choice scope w Normal scope
        (said bytes w) 67)
        (all_joined (text_of BetweenExits) (x ∷ xs))
        (within (omega arith) (if_false (compare (call (called does)) number
        (eq_is (last_said 1 xs) 0 ∙ some_said xs)) end))

    -- ---- `if (count_at(here)) { print "I can also see: "; list_items(here); print "^"; }`

    abbrev seen_choice : t.Statement
    seen_choice = t.If (c.Nonzero (v.Call (codes "count_at")
        (v.arguments (v.Name (codes "here") ∷ []))))
        (t.statements (t.Print (t.Text (text_in style AlsoSee) ∷ [])
        ∷ t.Call (codes "list_items") (v.arguments (v.Name (codes "here") ∷ []))
        ∷ t.Print (t.Text (text_of Newline) ∷ []) ∷ [])) t.NoStatements

    abbrev most_seen : ℕ
    most_seen = 13 * length db.items + 14

    seen_chosen : (w : Stage) (n : ℕ) (texts : List (List ℕ)) → n ≡ length texts
        → w.globals (codes "here") ≡ Some (pos s.room)
        → Does p (suc (suc d)) (codes "count_at") (pos s.room ∷ []) w (pos n) w
        (3 * length db.items + 3)
        → Does p (suc (suc d)) (codes "list_items") (pos s.room ∷ [])
        (said (text_in style AlsoSee) w) (pos 1)
        (said (joined (text_of BetweenItems) texts) (said (text_in style AlsoSee) w))
        (10 * length db.items + 4)
        → Executes p (suc (suc d)) seen_choice scope w Normal scope
        (said (items_seen style texts) w)
        most_seen
    seen_chosen w n [] is here counts lists =
        subst (λ w'. Executes p (suc (suc d)) seen_choice scope w Normal scope w' most_seen)
        (sym (said_nothing w))
        (within (omega arith) (if_false (nonzero
        (call (argument (global refl here) (called counts)))
        (ap (λ n. not (int_eq (pos n) (pos 0))) is)) end))
    seen_chosen w n (x ∷ xs) is here counts lists =
        subst (λ w'. Executes p (suc (suc d)) seen_choice scope w Normal scope w' most_seen)
        (said_three (text_in style AlsoSee) (joined (text_of BetweenItems) (x ∷ xs))
        (text_of Newline) w)
        (within (omega arith) (if_true (nonzero (call (argument (global refl here) (called counts)))
        (ap (λ n. not (int_eq (pos n) (pos 0))) is ∙ ap not (equal_is (length (x ∷ xs)) 0)
        ∙ some_there x xs))
        (next (print (print_text print_nothing))
        (next (call_alone (argument (global refl here) (called lists)))
        (next (print (print_text print_nothing)) end)))))

    -- ---- `if (count_at(255)) list_items(255); else print "Nothing";`

    abbrev carried_choice : t.Statement
    carried_choice = t.If (c.Nonzero (v.Call (codes "count_at") (v.arguments (v.Number 255 ∷ []))))
        (t.statements (t.Call (codes "list_items") (v.arguments (v.Number 255 ∷ [])) ∷ []))
        (t.statements (t.Print (t.Text (text_of NothingCarried) ∷ []) ∷ []))

    carried_chosen : (w : Stage) (n : ℕ) (texts : List (List ℕ)) → n ≡ length texts
        → Does p (suc (suc d)) (codes "count_at") (pos 255 ∷ []) w (pos n) w
        (3 * length db.items + 3)
        → Does p (suc (suc d)) (codes "list_items") (pos 255 ∷ []) w (pos 1)
        (said (joined (text_of BetweenItems) texts) w) (10 * length db.items + 4)
        → Executes p (suc (suc d)) carried_choice scope w Normal scope
        (said (joined_or (text_of NothingCarried) (text_of BetweenItems) texts) w) most_seen
    carried_chosen w n [] is counts lists =
        within (omega arith) (if_false (nonzero (call (argument number (called counts)))
        (ap (λ n. not (int_eq (pos n) (pos 0))) is)) (next (print (print_text print_nothing)) end))
    carried_chosen w n (x ∷ xs) is counts lists =
        within (omega arith) (if_true (nonzero (call (argument number (called counts)))
        (ap (λ n. not (int_eq (pos n) (pos 0))) is ∙ ap not (equal_is (length (x ∷ xs)) 0)
        ∙ some_there x xs))
        (next (call_alone (argument number (called lists))) end))

  -- `look` says what is seen in the room, or that it is too dark
  pub look_does : (d : ℕ) (w : Stage) → Shows s w → HasTables db w
      → Does p (suc (suc (suc (suc d)))) (codes "look") [] w (pos 1)
      (said (looked (in_style style db) s) w) (13 * length db.items + 120)
  unfolding body_of routine_names
  look_does d w shows tables = from (is_dark s) refl where
    dark : {b : Bool} → is_dark s ≡ b
        → Tests p (suc (suc (suc d))) (c.Nonzero (v.Call (codes "dark") v.NoArguments))
        (record { directive = has.look.at; locals = [] }) w b w 15
    dark is = nonzero (call (called (dark_does style db limits p has s w shows fits d)))
        (bit_nonzero (is_dark s) ∙ is)

    from : (b : Bool) → is_dark s ≡ b → Does p (suc (suc (suc (suc d)))) (codes "look") [] w (pos 1)
        (said (if b then text_in style TooDark else seen_in_light (in_style style db) s) w)
        (13 * length db.items + 120)
    from true is = does_within (omega arith) (routine has.look (returns (if_true (dark is)
        (next (print (print_text print_nothing)) (returns return_true)))) by_return)
    from false is = subst (λ w'. Does p (suc (suc (suc (suc d)))) (codes "look") [] w (pos 1) w'
        (13 * length db.items + 120)) all
        (does_within (omega arith) (routine has.look (next (if_false (dark is) end)
        (next (call_alone (argument (global refl shows.room_is)
        (called (room_does (suc (suc d)) w))))
        (next (print (print_text print_nothing))
        (next (exits_chosen (suc d) has.look.at _ (exit_names db s.room)
        (exits_do style db limits p has s fits (suc d) _ shows.room_is tables.exits_are))
        (next (print (print_text print_nothing))
        (next (seen_chosen (suc d) has.look.at _ (there_count s s.room)
        (items_at db s s.room) (count_is s.room) shows.room_is
        (count_does style db limits p has s _ shows fits (suc (suc d)) s.room)
        (list_does style db limits p has s fits (suc d) s.room _ shows)) (returns return_true)))))))
        by_return)) where
          all : said (items_seen style (items_at db s s.room)) (said (text_of ListEnd)
              (said (joined_or (text_of NoExits) (text_of BetweenExits) (exit_names db s.room))
              (said (text_of ObviousExits) (said (described style (room_at db s.room).text) w))))
              ≡ said (seen_in_light (in_style style db) s) w
          all = ap (said (items_seen style (items_at db s s.room)))
              (said_three (text_of ObviousExits)
              (joined_or (text_of NoExits) (text_of BetweenExits) (exit_names db s.room))
              (text_of ListEnd) (said (described style (room_at db s.room).text) w))
              ∙ said_three (described style (room_at db s.room).text)
              (exits_listed (exit_names db s.room)) (items_seen style (items_at db s s.room)) w

  -- `inventory` says what is carried
  pub inventory_does : (d : ℕ) (w : Stage) → Shows s w
      → Does p (suc (suc (suc d))) (codes "inventory") [] w (pos 1)
      (said (inventory (in_style style db) s) w) (13 * length db.items + 30)
  unfolding body_of routine_names
  inventory_does d w shows = subst (λ w'. Does p (suc (suc (suc d))) (codes "inventory") [] w
      (pos 1) w'
      (13 * length db.items + 30))
      (said_three (text_in style CarryingList)
      (joined_or (text_of NothingCarried) (text_of BetweenItems) (items_at db s carried_place))
      (text_of ListEnd) w)
      (does_within (omega arith) (routine has.inventory (next (print (print_text print_nothing))
      (next (carried_chosen d has.inventory.at _ (there_count s 255)
      (items_at db s carried_place) (count_is 255)
      (count_does style db limits p has s _ shows fits (suc d) 255)
      (list_does style db limits p has s fits d 255 _ shows))
      (next (print (print_text print_nothing)) (returns return_true)))) by_return))

-- The routine that lists the exits of the room.
use Rattle.std.proofs.Common.{◌≡◌, ◌∙◌, arith, ℕ, zero, suc, ◌+◌, ◌*◌, ◌<◌, ◌≤◌, ℤ, pos, nat_eq, nat_le, ◌==◌, ◌&&◌, not, Bool, true, false, if◌then◌else◌, List, [], ◌∷◌, map, length, drop, slice_get, slice_index, slice_index_or, flat_map, codes, Some, refl, sym, ap, subst, subst₂}
use Rattle.std.specs.List.{list_all}
use Rattle.std.proofs.lemmas.Bool.{and_parts}
use Rattle.std.proofs.lemmas.List.{length-map, length-append}
use Rattle.inform_tree.specs.declared.values.SumOp.TheVariants.{Add}
use Rattle.inform_tree.specs.declared.values.ProdOp.TheVariants.{Mul}
use Rattle.inform_tree.specs.Values as v
use Rattle.inform_tree.specs.Conditions as c
use Rattle.inform_tree.specs.Statements as t
use Rattle.inform_meaning.specs.Worlds.{Program, Scope}
use Rattle.inform_meaning.specs.Frames.{Loop, Normal}
use Rattle.inform_meaning.specs.Statements.{for_loop}
use Rattle.inform_logic.specs.Stages.{Stage, said}
use Rattle.inform_logic.specs.Leading.{Tests, Loops, Does, by_return}
use Rattle.inform_logic.proofs.Lists.{after_rest}
use Rattle.inform_logic.proofs.Words.{small_sum, small_product, counted_up, equal_is}
use Rattle.inform_logic.proofs.Values.{within, number, local, global, entry, sum_of_two, product_of_two, argument, called}
use Rattle.inform_logic.proofs.Conditions.{compare, nonzero}
use Rattle.inform_logic.proofs.Changes.{set_variable, increment}
use Rattle.inform_logic.proofs.Printing.{said_nothing}
use Rattle.inform_logic.proofs.Statements.{end, next, returns, assign, call_alone, return, if_true, if_false}
use Rattle.inform_logic.proofs.Loops.{for, for_once_more, for_ends}
use Rattle.inform_logic.proofs.Routines.{does_within, routine}
use Rattle.inform_codes.specs.Grown.{body_of}
use Rattle.scott_types.specs.declared.parts.Room.{Room}
use Rattle.scott_types.specs.declared.phrases.Phrase.{Phrase}
use Rattle.scott_types.specs.declared.phrases.Phrase.TheVariants.{BetweenExits}
use Rattle.scott_types.specs.declared.states.State.{State}
use Rattle.scott_types.specs.declared.styles.Style.{Style}
use Rattle.scott_types.specs.Database.{Database, room_at}
use Rattle.scott_types.specs.Limits.{is_number, is_file_text, is_room, KeepsLimits}
use Rattle.scott_types.specs.Phrase.{text_of}
use Rattle.scott_types.specs.Room.{room_beyond}
use Rattle.scott_types.specs.State.{Fits}
use Rattle.scott_rules.specs.Looking.{chosen, directions, exit_names}
use Rattle.trans_specs.specs.Tables.{exits_of_room, exits}
use Rattle.trans_specs.specs.Views.{naturals}
use Rattle.trans_specs.proofs.Flat.{exits_stand}
use Rattle.trans_data.specs.Routines.{routine_names}
use Rattle.trans_data.proofs.Lists.{under, is_under, at_most}
use Rattle.trans_data.proofs.Served.{HasAll}
use Rattle.trans_data.proofs.Places.{item_below}
use Rattle.trans_data.proofs.Spoken.{text_does}
use Rattle.trans_data.proofs.Chosen.{with_first, chosen_first, rest_joined}
use Rattle.trans_data.proofs.Listed.{separator_said, said_by, last_said, in_turn, at_rest, map_at_rest}

-- ---- the table of exits

no_room : Room
no_room = record { exits = []; text = [] }

-- each room of a file has six exits
six_exits : (rooms : List Room) → list_all is_room rooms ≡ true → (j : ℕ) → j < length rooms
    → length (slice_index_or rooms j (record { exits = []; text = [] })).exits ≡ 6
six_exits [] all j less = absurd (omega (arith, less))
six_exits (room ∷ rooms) all zero less = six (length room.exits) (and_parts (length room.exits == 6)
    (list_all is_number room.exits && is_file_text room.text)
    (and_parts (is_room room) (list_all is_room rooms) all).0).0 where
      six : (n : ℕ) → (n == 6) ≡ true → n ≡ 6
      six n h = grind (arith, h)
six_exits (room ∷ rooms) all (suc j) less =
    six_exits rooms (and_parts (is_room room) (list_all is_room rooms) all).1 j
    (omega (arith, less))

-- the table of exits has six entries for each room, where each room has six exits
many_exits : (db : Database) (rooms : List Room)
    → ((j : ℕ) → j < length rooms
    → length (slice_index_or rooms j (record { exits = []; text = [] })).exits ≡ 6)
    → length (flat_map (exits_of_room db) rooms) ≡ 6 * length rooms
many_exits db [] six = refl
many_exits db (room ∷ rooms) six = omega (
  arith,
  length-append (exits_of_room db room) (flat_map (exits_of_room db) rooms),
  length-map room.exits (room_beyond (length db.rooms)),
  six 0 (omega arith),
  many_exits db rooms (λ j less. six (suc j) (omega (arith, less))),
)

number_there : (xs : List ℕ) (i : ℕ) → i < length xs
    → slice_get (naturals xs) i ≡ Some (pos (slice_index xs i))
number_there [] i few = absurd (omega (arith, few))
number_there (x ∷ xs) zero few = refl
number_there (x ∷ xs) (suc i) few = number_there xs i (omega (arith, few))

pub few_rooms : (db : Database) → KeepsLimits db → length db.rooms ≤ 255
few_rooms db limits = at_most (length db.rooms) 255
    (and_parts (nat_le 1 (length db.rooms)) (nat_le (length db.rooms) 255) limits.sizes.rooms).1

-- ---- the loop

abbrev exit_there : c.Condition
exit_there = c.Nonzero (v.Entry (codes "exits") true
    (v.Sum (v.Product (v.Number 6) (v.MoreFactors Mul (v.Name (codes "here")) v.NoFactors))
    (v.MoreTerms Add (v.Name (codes "i")) v.NoTerms)))

abbrev exits_loop : Loop
exits_loop = for_loop (Some (item_below 6)) (Some (t.Inc (codes "i")))
    (t.statements (t.If exit_there (said_by (text_of BetweenExits) (codes "say_way"))
    t.NoStatements ∷ []))

abbrev walking : ℕ → ℕ → ℕ → Scope
walking r i n =
    record { directive = r; locals = (codes "i", pos i) ∷ (codes "n", pos n) ∷ [] }

module _ (style : Style) (db : Database) (limits : KeepsLimits db) (p : Program)
    (has : HasAll style db p) (s : State) (fits : Fits db s) where
  -- the way of a direction is said
  way_does : (d i : ℕ) (w : Stage) {way : Phrase} {ways : List Phrase}
      → drop i directions ≡ way ∷ ways → i < 6
      → Does p (suc d) (codes "say_way") (pos i ∷ []) w (pos 1) (said (text_of way) w) 2
  unfolding body_of routine_names
  way_does d i w {way} {ways} left few =
      subst (λ bytes. Does p (suc d) (codes "say_way") (pos i ∷ []) w (pos 1) (said bytes w) 2)
      (map_at_rest text_of directions i left)
      (text_does (codes "say_way") (map text_of directions) d i w has.say_way few (omega arith))

  in_room : s.room < length db.rooms
  in_room = is_under s.room (length db.rooms) fits.rooms.room

  abbrev room_exits : List ℤ
  room_exits = (room_at db s.room).exits

  abbrev passes : ℤ → Bool
  passes exit = not (room_beyond (length db.rooms) exit == 0)

  module _ (d r : ℕ) where
    -- from direction i on, where these texts are to come
    abbrev Walks : ℕ → ℕ → Stage → List (List ℕ) → ℕ → Type 0
    Walks i n w texts most = Loops p (suc d) exits_loop (walking r i n) w Normal
        (walking r 6 (last_said n texts)) (said (rest_joined (text_of BetweenExits) n texts) w) most

    exits_walked : (ways : List Phrase) (es : List ℤ) (i n : ℕ) (w : Stage)
        → w.globals (codes "here") ≡ Some (pos s.room)
        → w.arrays (codes "exits") ≡ Some (naturals (exits db)) → drop i directions ≡ ways
        → drop i room_exits ≡ es → i + length ways ≡ 6 → length es ≡ length ways
        → Walks i n w (chosen passes text_of ways es) (10 * length ways + 1)
    exits_walked [] [] i n w here there left also all same =
        let done : 6 ≡ i = omega (arith, all) in
        subst₂ (λ i w'. Loops p (suc d) exits_loop (walking r i n) w Normal (walking r 6 n) w' 1)
        done (sym (said_nothing w)) (for_ends (compare (local refl) number refl))
    exits_walked [] (e ∷ es) i n w here there left also all same = absurd (omega (arith, same))
    exits_walked (x ∷ xs) [] i n w here there left also all same = absurd (omega (arith, same))
    exits_walked (x ∷ xs) (e ∷ es) i n w here there left also all same =
        subst (λ texts. Walks i n w texts (10 * length (x ∷ xs) + 1))
        (sym (chosen_first passes text_of x xs e es))
        (from (room_beyond (length db.rooms) e == 0) refl (λ m w' g h. exits_walked xs es (i + 1) m
        w' g h (after_rest directions i left) (after_rest room_exits i also) (omega (arith, all))
        (omega (arith, same)))) where
          texts : List (List ℕ)
          texts = chosen passes text_of xs es

          less : i < 6
          less = omega (arith, all)

          on : Tests p (suc d) (item_below 6) (walking r i n) w true w 0
          on = compare (local refl) number (under i 6 less)

          value : slice_index (exits db) (6 * s.room + i) ≡ room_beyond (length db.rooms) e
          value = exits_stand db s.room i limits in_room less
              ∙ ap (room_beyond (length db.rooms)) (sym (at_rest room_exits i (pos 0) also))

          within_table : 6 * s.room + i < length (exits db)
          within_table = omega (
            arith,
            less,
            in_room,
            length-append (flat_map (exits_of_room db) db.rooms) (0 ∷ []),
            many_exits db db.rooms (six_exits db.rooms limits.entries.rooms),
          )

          small_room : 6 * s.room + i < 32768
          small_room = omega (arith, less, in_room, few_rooms db limits)

          exit : {b : Bool} → (room_beyond (length db.rooms) e == 0) ≡ b
              → Tests p (suc d) exit_there (walking r i n) w (not b) w 0
          exit is = nonzero (entry (sum_of_two (product_of_two number (global refl here)
              (small_product p.width 6 s.room (omega (arith, small_room)))) (local refl)
              (small_sum p.width (6 * s.room) i small_room)) there
              (number_there (exits db) (6 * s.room + i) within_table ∙ ap
              (λ x. Some (pos x)) value))
              (ap not (equal_is (room_beyond (length db.rooms) e) 0 ∙ is))

          from : (b : Bool) → (room_beyond (length db.rooms) e == 0) ≡ b
              → ((m : ℕ) (w : Stage) → w.globals (codes "here") ≡ Some (pos s.room)
              → w.arrays (codes "exits") ≡ Some (naturals (exits db))
              → Walks (i + 1) m w texts (10 * length xs + 1))
              → Walks i n w (with_first passes text_of (not b) x texts) (10 * length (x ∷ xs) + 1)
          from false is more = subst (λ w'. Loops p (suc d) exits_loop (walking r i n) w Normal
              (walking r 6 (last_said 1 texts)) w' (10 * length (x ∷ xs) + 1))
              (in_turn (if nat_eq n 0 then [] else text_of BetweenExits) (text_of x)
              (rest_joined (text_of BetweenExits) 1 texts) w)
              (within (omega arith) (for_once_more on (next (if_true (exit is)
              (next (separator_said (text_of BetweenExits) n w refl)
              (next (call_alone (argument (local refl) (called (way_does d i _ left less))))
              (next (assign (set_variable number refl)) end)))) end)
              (increment refl (counted_up p.width i (omega (arith, less))))
              (more 1 _ here there)))
          from true is more = within (omega arith) (for_once_more on
              (next (if_false (exit is) end) end)
              (increment refl (counted_up p.width i (omega (arith, less)))) (more n w here there))

  -- `list_exits` says the names of the room's exits with separators, in at most 64 steps
  pub exits_do : (d : ℕ) (w : Stage) → w.globals (codes "here") ≡ Some (pos s.room)
      → w.arrays (codes "exits") ≡ Some (naturals (exits db))
      → Does p (suc (suc d)) (codes "list_exits") [] w
      (pos (last_said 0 (exit_names db s.room)))
      (said (rest_joined (text_of BetweenExits) 0 (exit_names db s.room)) w) 64
  unfolding body_of routine_names
  exits_do d w here there = does_within (omega arith) (routine has.list_exits
      (next (for (set_variable number refl)
      (exits_walked d has.list_exits.at directions room_exits 0 0
      w here there refl refl refl (six_exits db.rooms limits.entries.rooms s.room in_room)))
      (returns (return (local refl)))) by_return)

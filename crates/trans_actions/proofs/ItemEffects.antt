-- Opcodes that move items meet their specifications.
use Rattle.std.proofs.Common.{◌≡◌, ◌∙◌, arith, ℕ, zero, suc, ◌<◌, ◌≤◌, ◌%◌, ℤ, pos, negsuc, ◌≤ℤ◌, nat_eq, nat_lt, Bool, true, false, not, ◌&&◌, ◌||◌, if◌then◌else◌, List, [], ◌∷◌, ◌++◌, length, map, codes, Some, None, is_some, refl, sym, ap, subst, append-nil}
use Rattle.std.specs.Prelude.{set, slice_get}
use Rattle.std.specs.List.{list_any, AllByRecursion}
use Rattle.std.specs.Fmt.{digits}
use Rattle.std.proofs.lemmas.List.{length-set}
use Rattle.adv_io.specs.Steps.{said_steps}
use Rattle.inform_meaning.specs.Words.{number_word}
use Rattle.inform_meaning.specs.Worlds.{Program}
use Rattle.inform_logic.specs.Stages.{Stage, with_global, with_array, said}
use Rattle.inform_logic.specs.Leading.{Does, at_end, by_return}
use Rattle.inform_logic.proofs.Words.{small_number, small_remainder, negation_is, negative_word}
use Rattle.inform_logic.proofs.Values.{valued, number, local, global, entry, call, argument, called, negation, product_of_two}
use Rattle.inform_logic.proofs.Conditions.{compare, nonzero, all_of, all_hold, one_holds, one_fails}
use Rattle.inform_logic.proofs.Changes.{set_variable, set_entry}
use Rattle.inform_logic.proofs.Printing.{print_nothing, print_text}
use Rattle.inform_logic.proofs.Statements.{end, next, returns, assign, print, call_alone, if_true, if_false, return_true, return_false}
use Rattle.inform_logic.proofs.Routines.{does_within, routine}
use Rattle.inform_codes.specs.Grown.{body_of}
use Rattle.scott_types.specs.declared.states.State.{State}
use Rattle.scott_types.specs.declared.styles.Style.{Style}
use Rattle.scott_types.specs.declared.opcodes.Opcode.TheVariants.{Get, Items, Refill}
use Rattle.scott_types.specs.declared.opcodes.ItemOp.TheVariants.{Drop, Remove, Put, Swap, Take, Join}
use Rattle.scott_types.specs.Database.{Database}
use Rattle.scott_types.specs.State.{Fits, has_item, is_here, place_of, with_place, with_flag}
use Rattle.scott_types.specs.declared.phrases.Phrase.TheVariants.{TooMuch}
use Rattle.scott_types.specs.Phrase.{text_in}
use Rattle.scott_rules.specs.Opcodes.{moved, redrawn, swapped, is_full, refilled, changed}
use Rattle.trans_specs.specs.Tables.{bit}
use Rattle.trans_specs.specs.Views.{naturals}
use Rattle.trans_specs.specs.Wide.{is_word_of}
use Rattle.trans_specs.specs.Names.{opcode_name}
use Rattle.trans_specs.specs.Standing.{StandsFor}
use Rattle.trans_specs.specs.Calls.{StageLeft, CallLeaves}
use Rattle.trans_specs.proofs.Entries.{bit_tells, place_at}
use Rattle.trans_specs.proofs.Kept.{kept_then, kept_redraw, kept_item, kept_light, kept_flag}
use Rattle.trans_specs.proofs.Left.{nothing_left, said_left, left_then}
use Rattle.trans_specs.proofs.Acts.{CallActs, returns_acts}
use Rattle.trans_actions.specs.declared.table.Kind.TheVariants as kinds
use Rattle.trans_actions.specs.Names.{action_names, light_number}
use Rattle.trans_actions.specs.Helpers.{uses, refill}
use Rattle.trans_actions.proofs.Known.{Known, Own, opcode_there}
use Rattle.trans_specs.proofs.Room.{one_less}
use Rattle.trans_actions.proofs.Stored.{is_less, less_is, few_items, flag_at, least_light, same_most, no_light}
use Rattle.trans_actions.proofs.Tests.{helper_room}
use Rattle.trans_actions.proofs.Effects.{left_by, opcode_steps, OpcodeSpec, some_is, two_less, alone}
use Rattle.trans_actions.proofs.Moved.{move_numbers, Moves, moves}

module _ {style : Style} {db : Database} {p : Program} (known : Known style db p) where
  -- what a call of `move_item` does
  moving : (n i : ℕ) → slice_get move_numbers i ≡ Some n → uses kinds.Opcode db n ≡ true
      → list_any (uses kinds.Opcode db) move_numbers ≡ true
  moving n i at used = some_is (uses kinds.Opcode db) move_numbers i at used

  -- 53: an item goes to the room where the player is
  pub opcode_53 : OpcodeSpec style db p 53
  unfolding body_of action_names digits
  opcode_53 used called_here a b s noun w d room stands =
      two_less (λ d. CallActs None db p d (opcode_name 53) (pos a ∷ []) w noun
      (moved s a s.room) [] (opcode_steps db)) 108 d room
      (λ k few. let
      m : Moves db p (suc k) a s.room noun w (moved s a s.room) =
      moves known s noun w stands a s.room (moving 53 1 refl used) k
      (known.laws.opcode_fits db (Items Drop) a b s known.limits stands.ready.fits) in
      returns_acts (does_within (omega arith) (routine (opcode_there known 2 (alone db 53 used))
      (next (call_alone (argument (local refl) (argument (global refl stands.ready.shows.room_is)
      (called m.does)))) end) at_end)) m.leaves)

  -- 55: an item goes to place 0
  pub opcode_55 : OpcodeSpec style db p 55
  unfolding body_of action_names digits
  opcode_55 used called_here a b s noun w d room stands =
      two_less (λ d. CallActs None db p d (opcode_name 55) (pos a ∷ []) w noun
      (moved s a 0) [] (opcode_steps db)) 108 d room
      (λ k few. let
      m : Moves db p (suc k) a 0 noun w (moved s a 0) =
      moves known s noun w stands a 0 (moving 55 2 refl used) k
      (known.laws.opcode_fits db (Items Remove) a b s known.limits stands.ready.fits) in
      returns_acts (does_within (omega arith) (routine (opcode_there known 4 (alone db 55 used))
      (next (call_alone (argument (local refl) (argument number (called m.does)))) end) at_end))
      m.leaves)

  -- 59: an item goes to place 0, as by 55
  pub opcode_59 : OpcodeSpec style db p 59
  unfolding body_of action_names digits
  opcode_59 used called_here a b s noun w d room stands =
      two_less (λ d. CallActs None db p d (opcode_name 59) (pos a ∷ []) w noun
      (moved s a 0) [] (opcode_steps db)) 108 d room
      (λ k few. let
      m : Moves db p (suc k) a 0 noun w (moved s a 0) =
      moves known s noun w stands a 0 (moving 59 3 refl used) k
      (known.laws.opcode_fits db (Items Remove) a b s known.limits stands.ready.fits) in
      returns_acts (does_within (omega arith) (routine (opcode_there known 8 (alone db 59 used))
      (next (call_alone (argument (local refl) (argument number (called m.does)))) end) at_end))
      m.leaves)

  -- 74: an item goes to place 255, so that it is carried
  pub opcode_74 : OpcodeSpec style db p 74
  unfolding body_of action_names digits
  opcode_74 used called_here a b s noun w d room stands =
      two_less (λ d. CallActs None db p d (opcode_name 74) (pos a ∷ []) w noun
      (moved s a 255) [] (opcode_steps db)) 108 d room
      (λ k few. let
      m : Moves db p (suc k) a 255 noun w (moved s a 255) =
      moves known s noun w stands a 255 (moving 74 6 refl used) k
      (known.laws.opcode_fits db (Items Take) a b s known.limits stands.ready.fits) in
      returns_acts (does_within (omega arith) (routine (opcode_there known 21 (alone db 74 used))
      (next (call_alone (argument (local refl) (argument number (called m.does)))) end) at_end))
      m.leaves)

  -- 75: an item goes to the place of another
  pub opcode_75 : OpcodeSpec style db p 75
  unfolding body_of action_names digits
  opcode_75 used called_here a b s noun w d room stands =
      two_less (λ d. CallActs None db p d (opcode_name 75) (pos a ∷ pos b ∷ []) w noun
      (moved s a (place_of s b)) [] (opcode_steps db)) 108 d room
      (λ k few. let
      m : Moves db p (suc k) a (place_of s b) noun w (moved s a (place_of s b)) =
      moves known s noun w stands a (place_of s b) (moving 75 7 refl used) k
      (known.laws.opcode_fits db (Items Join) a b s known.limits stands.ready.fits) in
      returns_acts (does_within (omega arith) (routine (opcode_there known 22 (alone db 75 used))
      (next (call_alone (argument (local refl) (argument
      (call (argument (local refl) (called (known.helpers.places b s noun w (suc k)
      (omega (arith, few)) stands)))) (called m.does)))) end) at_end)) m.leaves)

  -- 62: an item goes to a place, which is a byte
  pub opcode_62 : OpcodeSpec style db p 62
  unfolding body_of action_names digits
  opcode_62 used called_here a b s noun w d room stands = one_less (λ d. CallActs None db p d
      (opcode_name 62) (pos a ∷ pos b ∷ []) w noun
      (if has_item s a then redrawn (moved s a (b % 256)) else s) [] (opcode_steps db)) 109 d room
      (λ k few. by k (has_item s a) refl
      (known.laws.opcode_fits db (Items Put) a b s known.limits stands.ready.fits)) where
        places : List ℤ
        places = naturals s.places.items ++ stands.ready.shows.guard ∷ []

        -- where the item is there
        put : State
        put = record (with_place s a (b % 256)) { redraw = true }

        after : Stage
        after = with_global (codes "redraw") (pos 1)
            (with_array (codes "item") (set places a (pos (b % 256))) w)

        is_put : has_item s a ≡ true → redrawn (moved s a (b % 256)) ≡ put
        is_put has = ap (λ (t : Bool). redrawn (if t then record (with_place s a (b % 256))
            { redraw = s.redraw || (is_here s a || nat_eq (b % 256) s.room) } else s)) has

        by : (k : ℕ) (has : Bool) → has_item s a ≡ has
            → Fits db (if has then redrawn (moved s a (b % 256)) else s)
            → CallActs None db p (suc k) (opcode_name 62) (pos a ∷ pos b ∷ []) w noun
            (if has then redrawn (moved s a (b % 256)) else s) [] (opcode_steps db)
        by k true has fits = let
            there : a < length s.places.items = is_less a (length s.places.items) has in
            subst (λ t. CallActs None db p (suc k) (opcode_name 62) (pos a ∷ pos b ∷ []) w noun t []
            (opcode_steps db)) (sym (is_put has))
            (returns_acts (does_within (omega arith) (routine
            (opcode_there known 11 (alone db 62 used)) (next (if_true
            (compare (local refl) (valued (small_number p.width (few_items db known.limits)) number)
            (less_is a (length db.items) (omega (arith, there, stands.ready.fits.places.count))))
            (next (assign (set_entry (local refl) (product_of_two (local refl) number
            (small_remainder p.width b 256 (omega arith))) stands.ready.shows.places_are
            (ap is_some (place_at s.places.items stands.ready.shows.guard a there))))
            (next (assign (set_variable number (ap is_some stands.ready.shows.mark_is))) end))) end)
            at_end))
            (left_by stands (kept_then (kept_item (set places a (pos (b % 256))) w)
            (kept_redraw (pos 1) (with_array (codes "item") (set places a (pos (b % 256))) w)))
            (known.laws.globals_written.mark true (with_place s a (b % 256))
            (with_array (codes "item") (set places a (pos (b % 256))) w)
            (known.laws.entries_written.place s w a (b % 256) places stands.ready.shows there
            stands.ready.shows.places_are)) (subst (Fits db) (is_put has) fits)
            (sym (append-nil w.past))))
        by k false has fits = returns_acts (does_within (omega arith)
            (routine (opcode_there known 11 (alone db 62 used)) (next (if_false
            (compare (local refl) (valued (small_number p.width (few_items db known.limits)) number)
            (subst (λ n. nat_lt a n ≡ false) stands.ready.fits.places.count has)) end) end) at_end))
            (nothing_left stands)

  -- 72: two items change places
  pub opcode_72 : OpcodeSpec style db p 72
  unfolding body_of action_names digits
  opcode_72 used called_here a b s noun w d room stands = two_less (λ d. CallActs None db p d
      (opcode_name 72) (pos a ∷ pos b ∷ []) w noun (swapped s a b) [] (opcode_steps db)) 108 d room
      (λ k few. by k (has_item s a) (has_item s b) refl refl
      (known.laws.opcode_fits db (Items Swap) a b s known.limits stands.ready.fits)
      (known.laws.opcode_fits db (Items Join) a b s known.limits stands.ready.fits)) where
        one : State
        one = moved s a (place_of s b)

        by : (k : ℕ) (has also : Bool) → has_item s a ≡ has → has_item s b ≡ also
            → Fits db (if has && also then moved one b (place_of s a) else s) → Fits db one
            → CallActs None db p (suc (suc k)) (opcode_name 72) (pos a ∷ pos b ∷ []) w noun
            (if has && also then moved one b (place_of s a) else s) [] (opcode_steps db)
        by k true true has also fits fits_one = let
            there : a < length s.places.items = is_less a (length s.places.items) has in
            let there_too : b < length s.places.items = is_less b (length s.places.items) also in
            let m : Moves db p (suc k) a (place_of s b) noun w one =
            moves known s noun w stands a (place_of s b) (moving 72 5 refl used) k fits_one in
            let m2 : Moves db p (suc k) b (place_of s a) noun m.after (moved one b (place_of s a)) =
            moves known one noun m.after m.leaves.stands b (place_of s a) (moving 72 5 refl used) k
            fits in
            returns_acts (does_within (omega arith) (routine
            (opcode_there known 20 (alone db 72 used)) (next (if_true
            (all_of (one_holds (compare (local refl)
            (valued (small_number p.width (few_items db known.limits)) number)
            (less_is a (length db.items) (omega (arith, there, stands.ready.fits.places.count))))
            (one_holds (compare (local refl)
            (valued (small_number p.width (few_items db known.limits)) number)
            (less_is b (length db.items) (omega (
              arith,
              there_too,
              stands.ready.fits.places.count,
            ))))
            all_hold)))
            (next (assign (set_variable (entry (local refl) stands.ready.shows.places_are
            (place_at s.places.items stands.ready.shows.guard a there)) refl))
            (next (call_alone (argument (local refl) (argument (entry (local refl)
            stands.ready.shows.places_are
            (place_at s.places.items stands.ready.shows.guard b there_too)) (called m.does))))
            (next (call_alone (argument (local refl) (argument (local refl) (called m2.does))))
            end)))) end) at_end))
            (left_then m.leaves m2.leaves)
        by k true false has also fits fits_one = returns_acts (does_within (omega arith)
            (routine (opcode_there known 20 (alone db 72 used))
            (next (if_false (all_of (one_holds (compare (local refl)
            (valued (small_number p.width (few_items db known.limits)) number)
            (subst (λ n. nat_lt a n ≡ true) stands.ready.fits.places.count has))
            (one_fails (compare (local refl)
            (valued (small_number p.width (few_items db known.limits)) number)
            (subst (λ n. nat_lt b n ≡ false) stands.ready.fits.places.count also))))) end) end)
            at_end)) (nothing_left stands)
        by k false also has too fits fits_one = returns_acts (does_within (omega arith)
            (routine (opcode_there known 20 (alone db 72 used))
            (next (if_false (all_of (one_fails (compare (local refl)
            (valued (small_number p.width (few_items db known.limits)) number)
            (subst (λ n. nat_lt a n ≡ false) stands.ready.fits.places.count has)))) end) end)
            at_end)) (nothing_left stands)

  -- 69: the lamp is carried, with all its light
  module _ (s : State) (noun : List ℕ) (w : Stage) (stands : StandsFor db s noun w) where
    abbrev lit : State
    lit = with_flag (record s { light = db.header.light }) 16 false

    abbrev lit_stage : Stage
    lit_stage = with_array (codes "flag") (set (naturals (map bit s.flags)) 16 (pos 0))
        (with_global (codes "light") db.header.light w)

    lit_left : StageLeft db lit noun [] w lit_stage
    lit_left = left_by stands (kept_then (kept_light db.header.light w)
        (kept_flag (set (naturals (map bit s.flags)) 16 (pos 0))
        (with_global (codes "light") db.header.light w)))
        (known.laws.entries_written.flag (record s { light = db.header.light })
        (with_global (codes "light") db.header.light w) 16 false (naturals (map bit s.flags))
        (known.laws.globals_written.light_left db.header.light s w stands.ready.shows)
        stands.ready.shows.flags_are) lit_fits (sym (append-nil w.past)) where
          least : negsuc 0 ≤ℤ db.header.light
          least = least_light stands.ready.fits.light.0 stands.ready.fits.light.1

          lit_fits : Fits db lit
          lit_fits = record {
            rooms = let r = stands.ready.fits.rooms in
                record { room = r.room; saved = r.saved; rooms = r.rooms; count = r.count };
            counters = let c = stands.ready.fits.counters in
                record { counter = c.counter; counters = c.counters; count = c.count };
            flags = length-set s.flags 16 false ∙ stands.ready.fits.flags;
            light = (least, same_most db.header.light);
            places = let q = stands.ready.fits.places in
                record { count = q.count; places = q.places };
          }

    flag_there : is_some (slice_get (naturals (map bit s.flags)) 16) ≡ true
    flag_there = ap is_some (flag_at s.flags 16 (omega (arith, stands.ready.fits.flags)))

    refilled_by : (light : ℤ) → light ≡ db.header.light → is_word_of p.width light ≡ true
        → AllByRecursion (Own style db p (uses kinds.Opcode db)) (refill light)
        → uses kinds.Opcode db 69 ≡ true → (k : ℕ)
        → Moves db p (suc k) 9 255 noun lit_stage (refilled db s)
        → CallActs None db p (suc (suc k)) (opcode_name 69) [] w noun (refilled db s) []
        (opcode_steps db)
    unfolding body_of action_names digits
    refilled_by (pos n) is word owns used k m = returns_acts (subst (λ (w' : Stage).
        Does p (suc (suc k)) (opcode_name 69) [] w (pos 1) w' (opcode_steps db)) refl
        (does_within (omega arith) (routine
        (owns.0 (alone db 69 used))
        (next (assign (set_variable (valued
        (ap (λ z. number_word p.width (light_number z)) (sym is)
        ∙ known.laws.their_words p.width n word ∙ is) number)
        (ap is_some stands.ready.shows.light_is)))
        (next (assign (set_entry number number stands.ready.shows.flags_are flag_there))
        (next (call_alone (argument number (argument number (called m.does)))) end))) at_end)))
        (left_then lit_left m.leaves)
    refilled_by (negsuc zero) is word owns used k m = returns_acts (does_within (omega arith)
        (routine (owns.0 (alone db 69 used))
        (next (assign (set_variable (valued is (negation number
        (negation_is p.width (pos 1) (negative_word (omega arith)))))
        (ap is_some stands.ready.shows.light_is)))
        (next (assign (set_entry number number stands.ready.shows.flags_are flag_there))
        (next (call_alone (argument number (argument number (called m.does)))) end))) at_end))
        (left_then lit_left m.leaves)
    refilled_by (negsuc (suc n)) is word owns used k m = absurd (no_light n
        (subst (λ z. negsuc 0 ≤ℤ z) (sym is)
        (least_light stands.ready.fits.light.0 stands.ready.fits.light.1)))

  -- 69: the light lasts as long as at first, flag 16 is cleared, and item 9 is carried
  pub opcode_69 : OpcodeSpec style db p 69
  unfolding body_of action_names digits
  opcode_69 used called_here a b s noun w d room stands = two_less (λ d. CallActs None db p d
      (opcode_name 69) [] w noun (refilled db s) [] (opcode_steps db)) 108 d room
      (λ k few. refilled_by s noun w stands db.header.light refl known.light_word known.refill used
      k
      (moves known lit_state noun (lit_stage s noun w stands)
      (lit_left s noun w stands).stands 9 255 (moving 69 4 refl used) k
      (known.laws.opcode_fits db Refill a b s known.limits stands.ready.fits))) where
        lit_state : State
        lit_state = lit s noun w stands

  -- 52: a get is refused where the hands are full, and tells that
  pub get_spec : uses kinds.Opcode db 52 ≡ true → (a : ℕ) (s : State) (noun : List ℕ) (w : Stage)
      (d : ℕ) → helper_room ≤ d → StandsFor db s noun w
      → CallLeaves p d (opcode_name 52) (pos a ∷ []) w (pos (bit (not (is_full db s)))) db
      (changed db Get a 0 s) noun
      (said_steps (if is_full db s then text_in style TooMuch else [])) (opcode_steps db)
  unfolding body_of action_names digits
  get_spec used a s noun w d room stands = two_less (λ d. CallLeaves p d (opcode_name 52)
      (pos a ∷ []) w (pos (bit (not (is_full db s)))) db (if is_full db s then s else moved s a 255)
      noun (said_steps (if is_full db s then text_in style TooMuch else [])) (opcode_steps db))
      108 d room (λ k few. by k few (is_full db s) refl
      (known.laws.opcode_fits db Get a 0 s known.limits stands.ready.fits)) where
        by : (k : ℕ) → 108 ≤ k → (full : Bool) → is_full db s ≡ full
            → Fits db (if full then s else moved s a 255)
            → CallLeaves p (suc (suc k)) (opcode_name 52) (pos a ∷ []) w (pos (bit (not full))) db
            (if full then s else moved s a 255) noun
            (said_steps (if full then text_in style TooMuch else [])) (opcode_steps db)
        by k few true full fits = record {
          after = said (text_in style TooMuch) w;
          does = does_within (omega arith) (routine (opcode_there known 1 (alone db 52 used))
              (returns (if_true
              (nonzero (call (called (known.helpers.full_hands s noun w (suc k) (omega (arith, few))
              stands))) (bit_tells (is_full db s) ∙ full))
              (next (print (print_text print_nothing)) (returns return_false)))) by_return);
          leaves = said_left (text_in style TooMuch) stands;
        }
        by k few false full fits = let
            m : Moves db p (suc k) a 255 noun w (moved s a 255) =
            moves known s noun w stands a 255 (moving 52 0 refl used) k fits in
            record {
              after = m.after;
              does = does_within (omega arith) (routine (opcode_there known 1 (alone db 52 used))
                  (next (if_false
                  (nonzero (call (called (known.helpers.full_hands s noun w (suc k)
                  (omega (arith, few)) stands))) (bit_tells (is_full db s) ∙ full)) end)
                  (next (call_alone (argument (local refl) (argument number (called m.does))))
                  (returns return_true))) by_return);
              leaves = m.leaves;
            }

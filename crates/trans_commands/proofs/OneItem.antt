-- One item: whether it can be taken, and where it goes.
use Rattle.std.proofs.Common.{◌≡◌, ◌∙◌, arith, ℕ, suc, ◌+◌, ◌<◌, ◌≤◌, pos, Bool, true, false, not, ◌&&◌, List, [], ◌∷◌, ◌++◌, length, drop, set, codes, Some, is_some, refl, sym, ap, append-nil, if◌then◌else◌}
use Rattle.inform_meaning.specs.Worlds.{Program}
use Rattle.inform_logic.specs.Stages.{Stage, with_global, with_array}
use Rattle.inform_logic.specs.Leading.{Does, by_return, at_end}
use Rattle.inform_logic.proofs.Words.{eq_is}
use Rattle.inform_logic.proofs.Values.{number, local, global, entry, call, argument, called}
use Rattle.inform_logic.proofs.Conditions.{compare, nonzero, all_of, all_hold, one_holds, one_fails}
use Rattle.inform_logic.proofs.Changes.{set_variable, set_entry}
use Rattle.inform_logic.proofs.Statements.{end, next, returns, assign, if_true, if_false, return_true, return_false}
use Rattle.inform_logic.proofs.Routines.{does_within, routine}
use Rattle.inform_codes.specs.Grown.{body_of}
use Rattle.scott_types.specs.declared.states.State.{State}
use Rattle.scott_types.specs.declared.styles.Style.{Style}
use Rattle.scott_types.specs.declared.parts.Item.{Item}
use Rattle.scott_types.specs.declared.endings.Transfer.{Transfer}
use Rattle.scott_types.specs.declared.endings.Transfer.TheVariants.{PickUp, PutDown}
use Rattle.scott_types.specs.Database.{Database}
use Rattle.scott_types.specs.State.{with_place, place_of}
use Rattle.scott_rules.specs.Words.{is_empty}
use Rattle.scott_rules.specs.Opcodes.{is_full}
use Rattle.scott_rules.specs.Transfer.{verb_for, is_at_hand, is_taken, is_refused, destination, transferred}
use Rattle.trans_specs.specs.Tables.{bit, item_word}
use Rattle.trans_specs.specs.Views.{naturals}
use Rattle.trans_specs.specs.Standing.{StandsFor}
use Rattle.trans_specs.specs.Steps.{text_steps}
use Rattle.trans_specs.specs.DataSpecs.{text_room}
use Rattle.trans_specs.specs.Calls.{StageLeft}
use Rattle.trans_commands.proofs.Known.{Known}
use Rattle.trans_specs.proofs.Entries.{bit_tells, place_at}
use Rattle.trans_commands.proofs.Tabled.{tabled}

module _ {style : Style} {db : Database} {p : Program} (known : Known style db p) (s : State)
    (typed : List ℕ) (w : Stage) (stands : StandsFor db s typed w) where
  -- an item of the database has a place
  has_place : (i : ℕ) → i < length db.items → i < length s.places.items
  has_place i less = omega (arith, less, stands.ready.fits.places.count)

  -- ---- at hand

  -- `at_hand` tells whether an item is there to be got, or is carried and can be dropped, in at
  -- most three steps
  pub at_hand : (t : Transfer) (i d : ℕ) → i < length db.items → Does p (suc d) (codes "at_hand")
      (pos (verb_for t) ∷ pos i ∷ []) w (pos (bit (is_at_hand t s i))) w 3
  unfolding body_of
  at_hand t i d less = by t (is_at_hand t s i) refl where
    by : (t : Transfer) (b : Bool) → is_at_hand t s i ≡ b → Does p (suc d) (codes "at_hand")
        (pos (verb_for t) ∷ pos i ∷ []) w (pos (bit b)) w 3
    by PickUp true is = does_within (omega arith) (routine known.at_hand (returns (if_true
        (compare (local refl) number refl) (returns (if_true (compare
        (entry (local refl) stands.ready.shows.places_are
        (place_at s.places.items stands.ready.shows.guard i (has_place i less)))
        (global refl stands.ready.shows.room_is) (eq_is (place_of s i) s.room ∙ is))
        (returns return_true))))) by_return)
    by PickUp false is = does_within (omega arith) (routine known.at_hand (returns (if_true
        (compare (local refl) number refl) (next (if_false (compare
        (entry (local refl) stands.ready.shows.places_are
        (place_at s.places.items stands.ready.shows.guard i (has_place i less)))
        (global refl stands.ready.shows.room_is) (eq_is (place_of s i) s.room ∙ is)) end)
        (returns return_false)))) by_return)
    by PutDown true is = does_within (omega arith) (routine known.at_hand (next (if_false
        (compare (local refl) number refl) end) (returns (if_true (compare
        (entry (local refl) stands.ready.shows.places_are
        (place_at s.places.items stands.ready.shows.guard i (has_place i less)))
        number (eq_is (place_of s i) 255 ∙ is)) (returns return_true)))) by_return)
    by PutDown false is = does_within (omega arith) (routine known.at_hand (next (if_false
        (compare (local refl) number refl) end) (next (if_false (compare
        (entry (local refl) stands.ready.shows.places_are
        (place_at s.places.items stands.ready.shows.guard i (has_place i less)))
        number (eq_is (place_of s i) 255 ∙ is)) end) (returns return_false))) by_return)

  -- ---- to be taken with all others

  -- `can_take` tells whether an item is at hand and has a word by which it is taken, in at most six
  -- steps
  pub can_take : (t : Transfer) (i d : ℕ) (item : Item) (rest : List Item) → i < length db.items
      → drop i db.items ≡ item ∷ rest → Does p (suc (suc d)) (codes "can_take")
      (pos (verb_for t) ∷ pos i ∷ []) w (pos (bit (is_taken t i item s))) w 6
  unfolding body_of
  can_take t i d item rest less left =
      by (is_at_hand t s i) (not (is_empty (item_word item))) refl refl where
        by : (a b : Bool) → is_at_hand t s i ≡ a → not (is_empty (item_word item)) ≡ b
            → Does p (suc (suc d)) (codes "can_take") (pos (verb_for t) ∷ pos i ∷ []) w
            (pos (bit (a && b))) w 6
        by true true hand word = does_within (omega arith) (routine known.can_take (returns (if_true
            (all_of (one_holds (nonzero (call (argument (local refl) (argument (local refl)
            (called (at_hand t i d less))))) (bit_tells (is_at_hand t s i) ∙ hand))
            (one_holds (nonzero (entry (local refl) stands.ready.tables.words_are
            (tabled _ db.items i left)) (bit_tells (not (is_empty (item_word item))) ∙ word))
            all_hold))) (returns return_true))) by_return)
        by true false hand word = does_within (omega arith) (routine known.can_take (next (if_false
            (all_of (one_holds (nonzero (call (argument (local refl) (argument (local refl)
            (called (at_hand t i d less))))) (bit_tells (is_at_hand t s i) ∙ hand))
            (one_fails (nonzero (entry (local refl) stands.ready.tables.words_are
            (tabled _ db.items i left)) (bit_tells (not (is_empty (item_word item))) ∙ word)))))
            end) (returns return_false)) by_return)
        by false b hand word = does_within (omega arith) (routine known.can_take (next (if_false
            (all_of (one_fails (nonzero (call (argument (local refl) (argument (local refl)
            (called (at_hand t i d less))))) (bit_tells (is_at_hand t s i) ∙ hand))))
            end) (returns return_false)) by_return)

  -- ---- full hands

  -- `is_refused` tells whether hands are full at a get, and nothing is refused at a drop
  pub refused : (t : Transfer) (d : ℕ) → text_room ≤ d → Does p (suc d) (codes "is_refused")
      (pos (verb_for t) ∷ []) w (pos (bit (is_refused t db s))) w (text_steps db + 3)
  unfolding body_of
  refused t d room = by t (is_refused t db s) refl where
    by : (t : Transfer) (b : Bool) → is_refused t db s ≡ b → Does p (suc d) (codes "is_refused")
        (pos (verb_for t) ∷ []) w (pos (bit b)) w (text_steps db + 3)
    by PickUp true is = does_within (omega arith) (routine known.is_refused (returns (if_true
        (all_of (one_holds (compare (local refl) number refl) (one_holds (nonzero (call (called
        (known.helpers.full_hands s typed w d room stands))) (bit_tells (is_full db s) ∙ is))
        all_hold))) (returns return_true))) by_return)
    by PickUp false is = does_within (omega arith) (routine known.is_refused (next (if_false
        (all_of (one_holds (compare (local refl) number refl) (one_fails (nonzero (call (called
        (known.helpers.full_hands s typed w d room stands))) (bit_tells (is_full db s) ∙ is)))))
        end) (returns return_false)) by_return)
    by PutDown true is = cc
    by PutDown false is = does_within (omega arith) (routine known.is_refused (next (if_false
        (all_of (one_fails (compare (local refl) number refl))) end) (returns return_false))
        by_return)

  -- ---- to its place

  -- the stage in which the item is there, and then the room is described again
  abbrev placed_stage : Transfer → ℕ → Stage
  placed_stage t i = with_array (codes "item")
      (set (naturals s.places.items ++ stands.ready.shows.guard ∷ []) i (pos (destination t s))) w

  abbrev pub put_stage : Transfer → ℕ → Stage
  put_stage t i = with_global (codes "redraw") (pos 1) (placed_stage t i)

  -- `put_item` puts an item where it goes and sets the mark to describe the room, in at most three
  -- steps
  pub put_item : (t : Transfer) (i d : ℕ) → i < length db.items → Does p (suc d) (codes "put_item")
      (pos (verb_for t) ∷ pos i ∷ []) w (pos 1) (put_stage t i) 3
  unfolding body_of
  put_item PickUp i d less = does_within (omega arith) (routine known.put_item (next (if_true
      (compare (local refl) number refl) (next (assign (set_entry (local refl) number
      stands.ready.shows.places_are (ap is_some
      (place_at s.places.items stands.ready.shows.guard i (has_place i less))))) end))
      (next (assign (set_variable number (ap is_some stands.ready.shows.mark_is))) end)) at_end)
  put_item PutDown i d less = does_within (omega arith) (routine known.put_item (next (if_false
      (compare (local refl) number refl) (next (assign (set_entry (local refl)
      (global refl stands.ready.shows.room_is) stands.ready.shows.places_are (ap is_some
      (place_at s.places.items stands.ready.shows.guard i (has_place i less))))) end))
      (next (assign (set_variable number (ap is_some stands.ready.shows.mark_is))) end)) at_end)

  -- the stage after `put_item` stands for the state in which the item was transferred
  pub put_left : (t : Transfer) (i : ℕ) → i < length db.items
      → StageLeft db (transferred t i s) typed [] w (put_stage t i)
  put_left t i less = record {
    stands = record {
      ready = record {
        shows = known.laws.globals_written.mark true (with_place s i (destination t s))
            (placed_stage t i)
            (known.laws.entries_written.place s w i (destination t s) _ stands.ready.shows
            (has_place i less) stands.ready.shows.places_are);
        fits = known.laws.transfer_fits db t i s known.limits stands.ready.fits;
        tables = stands.ready.tables;
        working = stands.ready.working;
      };
      has_noun = stands.has_noun;
    };
    past_is = sym (append-nil w.past);
    lines_stay = refl;
    draws_stay = refl;
    globals_stay = λ name other. ap (λ (b : Bool). if b then Some (pos 1) else w.globals name)
        other.1.1.1.1.0;
    arrays_stay = λ name other. ap (λ (b : Bool). if b then
        Some (set (naturals s.places.items ++ stands.ready.shows.guard ∷ []) i
        (pos (destination t s))) else w.arrays name) other.0;
  }

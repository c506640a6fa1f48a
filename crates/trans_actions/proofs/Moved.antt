-- An item goes to a place.
use Rattle.std.proofs.Common.{◌≡◌, ◌∙◌, arith, ℕ, suc, ◌<◌, ℤ, pos, nat_eq, nat_lt, Bool, true, false, ◌||◌, if◌then◌else◌, List, [], ◌∷◌, ◌++◌, length, codes, Some, None, is_some, refl, sym, ap, subst, append-nil}
use Rattle.std.specs.Prelude.{set}
use Rattle.std.specs.List.{list_any}
use Rattle.inform_tree.specs.declared.conditions.Relation.TheVariants.{Eq}
use Rattle.inform_tree.specs.Values as v
use Rattle.inform_tree.specs.Conditions as c
use Rattle.inform_tree.specs.Conditions.{Condition}
use Rattle.inform_meaning.specs.Worlds.{Program, Scope}
use Rattle.inform_logic.specs.Stages.{Stage, with_global, with_array}
use Rattle.inform_logic.specs.Leading.{Does, Tests, at_end}
use Rattle.inform_logic.proofs.Words.{eq_is, small_number}
use Rattle.inform_logic.proofs.Values.{valued, number, local, global, entry}
use Rattle.inform_logic.proofs.Conditions.{compare, any_of, none_holds, this_holds, this_fails}
use Rattle.inform_logic.proofs.Changes.{set_variable, set_entry}
use Rattle.inform_logic.proofs.Statements.{end, next, assign, if_true, if_false}
use Rattle.inform_logic.proofs.Routines.{does_within, routine}
use Rattle.inform_codes.specs.Grown.{body_of}
use Rattle.inform_meaning.specs.Tables.{found}
use Rattle.scott_types.specs.declared.states.State.{State}
use Rattle.scott_types.specs.declared.styles.Style.{Style}
use Rattle.scott_types.specs.Database.{Database}
use Rattle.scott_types.specs.State.{Fits, has_item, is_here, place_of, with_place}
use Rattle.scott_rules.specs.Opcodes.{moved}
use Rattle.trans_specs.specs.Views.{naturals, Shows}
use Rattle.trans_specs.specs.Standing.{StandsFor}
use Rattle.trans_specs.specs.Calls.{StageLeft}
use Rattle.trans_specs.proofs.Entries.{place_at}
use Rattle.trans_specs.proofs.Kept.{kept_then, kept_redraw, kept_item}
use Rattle.trans_specs.proofs.Left.{nothing_left}
use Rattle.trans_actions.specs.declared.table.Kind.TheVariants as kinds
use Rattle.trans_actions.specs.Names.{action_names}
use Rattle.trans_actions.specs.Helpers.{uses}
use Rattle.trans_actions.proofs.Known.{Known, opcode_there}
use Rattle.trans_actions.proofs.Stored.{is_less, less_is, few_items}
use Rattle.trans_actions.proofs.Effects.{left_by}

-- the opcodes that move an item
abbrev pub move_numbers : List ℕ
move_numbers = 52 ∷ 53 ∷ 55 ∷ 59 ∷ 69 ∷ 72 ∷ 74 ∷ 75 ∷ []

or_true : (b : Bool) → b || true ≡ true
or_true true = refl
or_true false = refl

or_false : (b : Bool) → b || false ≡ b
or_false true = refl
or_false false = refl

-- a call of `move_item` leaves this state
pub record Moves (db : Database) (p : Program) (d : ℕ) (a b : ℕ) (noun : List ℕ) (w : Stage)
    (t : State) : Type 0 where
  pub after : Stage
  pub does : Does p d (codes "move_item") (pos a ∷ pos b ∷ []) w (pos 1) after 5
  pub leaves : StageLeft db t noun [] w after

-- `(item-->a == here) || (b == here)`
abbrev comes_or_goes : Condition
comes_or_goes = c.Any (c.MoreConditions (c.Compare Eq
    (v.Entry (codes "item") true (v.Name (codes "a"))) (v.Name (codes "here")))
    (c.MoreConditions (c.Compare Eq (v.Name (codes "b")) (v.Name (codes "here"))) c.NoConditions))

module _ {style : Style} {db : Database} {p : Program} (known : Known style db p) (s : State)
    (noun : List ℕ) (w : Stage) (stands : StandsFor db s noun w) (a b : ℕ) where
  abbrev places : List ℤ
  places = naturals s.places.items ++ stands.ready.shows.guard ∷ []

  module _ (there : a < length s.places.items) (d : ℕ) where
    tested : (scope : Scope) → found (codes "a") scope.locals ≡ Some (pos a)
        → found (codes "b") scope.locals ≡ Some (pos b)
        → found (codes "here") scope.locals ≡ None
        → Tests p d comes_or_goes scope w (is_here s a || nat_eq b s.room) w 0
    tested scope a_is b_is none = by (is_here s a) refl where
      last : (t : Bool) → nat_eq b s.room ≡ t → is_here s a ≡ false
          → Tests p d comes_or_goes scope w t w 0
      last true comes stays = any_of (this_fails (compare
          (entry (local a_is) stands.ready.shows.places_are
          (place_at s.places.items stands.ready.shows.guard a there))
          (global none stands.ready.shows.room_is) (eq_is (place_of s a) s.room ∙ stays))
          (this_holds (compare (local b_is) (global none stands.ready.shows.room_is)
          (eq_is b s.room ∙ comes))))
      last false comes stays = any_of (this_fails (compare
          (entry (local a_is) stands.ready.shows.places_are
          (place_at s.places.items stands.ready.shows.guard a there))
          (global none stands.ready.shows.room_is) (eq_is (place_of s a) s.room ∙ stays))
          (this_fails (compare (local b_is) (global none stands.ready.shows.room_is)
          (eq_is b s.room ∙ comes)) none_holds))

      by : (t : Bool) → is_here s a ≡ t
          → Tests p d comes_or_goes scope w (t || nat_eq b s.room) w 0
      by true goes = any_of (this_holds (compare
          (entry (local a_is) stands.ready.shows.places_are
          (place_at s.places.items stands.ready.shows.guard a there))
          (global none stands.ready.shows.room_is) (eq_is (place_of s a) s.room ∙ goes)))
      by false stays = last (nat_eq b s.room) refl stays

    tested_as : (t : Bool) → is_here s a || nat_eq b s.room ≡ t → (scope : Scope)
        → found (codes "a") scope.locals ≡ Some (pos a)
        → found (codes "b") scope.locals ≡ Some (pos b)
        → found (codes "here") scope.locals ≡ None → Tests p d comes_or_goes scope w t w 0
    tested_as t is scope a_is b_is none =
        subst (λ t. Tests p d comes_or_goes scope w t w 0) is (tested scope a_is b_is none)

    moves_there : list_any (uses kinds.Opcode db) move_numbers ≡ true → (t : Bool)
        → is_here s a || nat_eq b s.room ≡ t
        → Fits db (record (with_place s a b) { redraw = s.redraw || t })
        → Moves db p (suc d) a b noun w (record (with_place s a b) { redraw = s.redraw || t })
    unfolding body_of action_names
    moves_there used true is fits = record {
      after = with_array (codes "item") (set places a (pos b))
          (with_global (codes "redraw") (pos 1) w);
      does = does_within (omega arith) (routine (opcode_there known 0 used) (next (if_true
          (compare (local refl) (valued (small_number p.width (few_items db known.limits)) number)
          (less_is a (length db.items) (omega (arith, there, stands.ready.fits.places.count))))
          (next (if_true (tested_as true is _ refl refl refl)
          (next (assign (set_variable number (ap is_some stands.ready.shows.mark_is))) end))
          (next (assign (set_entry (local refl) (local refl) stands.ready.shows.places_are
          (ap is_some (place_at s.places.items stands.ready.shows.guard a there)))) end))) end)
          at_end);
      leaves = left_by stands (kept_then (kept_redraw (pos 1) w)
          (kept_item (set places a (pos b)) (with_global (codes "redraw") (pos 1) w)))
          (subst (λ r. Shows (record (with_place s a b) { redraw = r })
          (with_array (codes "item") (set places a (pos b))
          (with_global (codes "redraw") (pos 1) w)))
          (sym (or_true s.redraw))
          (known.laws.entries_written.place (record s { redraw = true })
          (with_global (codes "redraw") (pos 1) w) a b places
          (known.laws.globals_written.mark true s w stands.ready.shows) there
          stands.ready.shows.places_are)) fits (sym (append-nil w.past));
    }
    moves_there used false is fits = record {
      after = with_array (codes "item") (set places a (pos b)) w;
      does = does_within (omega arith) (routine (opcode_there known 0 used) (next (if_true
          (compare (local refl) (valued (small_number p.width (few_items db known.limits)) number)
          (less_is a (length db.items) (omega (arith, there, stands.ready.fits.places.count))))
          (next (if_false (tested_as false is _ refl refl refl) end)
          (next (assign (set_entry (local refl) (local refl) stands.ready.shows.places_are
          (ap is_some (place_at s.places.items stands.ready.shows.guard a there)))) end))) end)
          at_end);
      leaves = left_by stands (kept_item (set places a (pos b)) w)
          (subst (λ r. Shows (record (with_place s a b) { redraw = r })
          (with_array (codes "item") (set places a (pos b)) w)) (sym (or_false s.redraw))
          (known.laws.entries_written.place s w a b places stands.ready.shows there
          stands.ready.shows.places_are)) fits (sym (append-nil w.past));
    }

  -- `move_item` moves an item as the rules do, and does nothing for one that isn't there
  pub moves : list_any (uses kinds.Opcode db) move_numbers ≡ true → (d : ℕ) → Fits db (moved s a b)
      → Moves db p (suc d) a b noun w (moved s a b)
  unfolding body_of action_names
  moves used d fits = by (has_item s a) refl fits where
    by : (has : Bool) → has_item s a ≡ has
        → Fits db (if has then record (with_place s a b)
        { redraw = s.redraw || (is_here s a || nat_eq b s.room) } else s)
        → Moves db p (suc d) a b noun w (if has then record (with_place s a b)
        { redraw = s.redraw || (is_here s a || nat_eq b s.room) } else s)
    by true has fits = moves_there (is_less a (length s.places.items) has) d used
        (is_here s a || nat_eq b s.room) refl fits
    by false has fits = record {
      after = w;
      does = does_within (omega arith) (routine (opcode_there known 0 used) (next (if_false
          (compare (local refl) (valued (small_number p.width (few_items db known.limits)) number)
          (subst (λ n. nat_lt a n ≡ false) stands.ready.fits.places.count has)) end) end) at_end);
      leaves = nothing_left stands;
    }

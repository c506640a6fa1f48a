-- Walking in a direction.
use Rattle.std.proofs.Common.{◌≡◌, ◌∙◌, arith, ℕ, suc, ◌+◌, ◌-◌, ◌*◌, ◌<◌, ◌≤◌, pos, nat_eq, Bool, true, false, if◌then◌else◌, List, [], ◌∷◌, length, codes, Some, is_some, refl, sym, ap, subst}
use Rattle.adv_io.specs.Steps.{Step, Traced, after, said_steps, traced_text}
use Rattle.inform_tree.specs.Statements.{Statements}
use Rattle.inform_meaning.specs.Worlds.{Program, Scope}
use Rattle.inform_meaning.specs.Frames.{Normal}
use Rattle.inform_logic.specs.Stages.{Stage, with_global, said}
use Rattle.inform_logic.specs.Leading.{Executes, at_end}
use Rattle.inform_logic.specs.Stopping.{in_block}
use Rattle.inform_logic.proofs.Words.{eq_is, small_sum, small_difference, small_product}
use Rattle.inform_logic.proofs.Values.{within, number, local, global, entry, call, called, sum_of_two, product_of_two}
use Rattle.inform_logic.proofs.Conditions.{compare, nonzero}
use Rattle.inform_logic.proofs.Changes.{set_variable}
use Rattle.inform_logic.proofs.Printing.{print_nothing, print_text, said_nothing}
use Rattle.inform_logic.proofs.Statements.{end, next, assign, print, if_true, if_false}
use Rattle.inform_logic.proofs.Routines.{does_within, routine}
use Rattle.inform_logic.proofs.Stops.{quit, later, handed_up, routine_stops}
use Rattle.inform_codes.specs.Grown.{body_of}
use Rattle.scott_types.specs.declared.states.State.{State}
use Rattle.scott_types.specs.declared.styles.Style.{Style}
use Rattle.scott_types.specs.declared.phrases.Phrase.TheVariants.{DarkMove, Moved, BrokenNeck, NoExitThere}
use Rattle.scott_types.specs.Phrase.{text_of, text_in}
use Rattle.scott_types.specs.Database.{Database, room_at}
use Rattle.scott_types.specs.Room.{exit_of}
use Rattle.scott_types.specs.Style.{in_style}
use Rattle.scott_types.specs.State.{is_dark, Fits}
use Rattle.scott_rules.specs.Progress.{Progress, goes_on}
use Rattle.scott_rules.specs.Rounds.{moved_to, no_way, walk_result}
use Rattle.trans_specs.proofs.Lengths.{few}
use Rattle.trans_specs.specs.Standing.{StandsFor}
use Rattle.trans_specs.specs.Steps.{text_steps}
use Rattle.trans_specs.specs.DataSpecs.{text_room}
use Rattle.trans_specs.specs.Calls.{StageLeft}
use Rattle.trans_specs.proofs.Left.{said_left, nothing_left, left_then}
use Rattle.trans_commands.proofs.Spent.{walk_steps}
use Rattle.trans_specs.proofs.Acts.{CallActs, acts_within, acts_call, acts_if, acts_next, acts_routine, returns_acts}
use Rattle.trans_commands.proofs.Blocks.{first_of, rest_of}
use Rattle.trans_commands.proofs.Exits.{exit_at}
use Rattle.trans_commands.proofs.Known.{Known, body}
use Rattle.trans_specs.proofs.Entries.{bit_tells}
use Rattle.trans_commands.specs.declared.walking.TheConstants.{WALK}

module _ {style : Style} {db : Database} {p : Program} (known : Known style db p) (s : State)
    (typed : List ℕ) where
  -- ---- no exit

  -- `no_way` says that there is no exit, and in the dark it ends the game with a broken neck
  no_way_by : (w : Stage) → StandsFor db s typed w → (d : ℕ) → text_room ≤ d → (b : Bool)
      → is_dark s ≡ b → let t = no_way style b s in CallActs t.value.over db p (suc d)
      (codes "no_way") [] w typed t.value.state t.events (text_steps db + 6)
  unfolding body_of
  no_way_by w stands d room true is = record {
    acts = record {
      after = with_global (codes "over") (pos 2) (said (text_in style BrokenNeck) w);
      stops = routine_stops known.no_way (later (λ e s'. within (omega arith)) (handed_up in_block
          (later (λ e s'. if_true (nonzero (call (called
          (known.helpers.darkness s typed w d room stands))) (bit_tells (is_dark s) ∙ is)))
          (later (λ e s'. next (print (print_text print_nothing)))
          (later (λ e s'. next (assign (set_variable number stands.ready.working.over_there)))
          (handed_up in_block quit))))));
      shows = stands.ready.shows;
      past_is = refl;
      over_is = refl;
    };
  }
  no_way_by w stands d room false is = returns_acts (does_within (omega arith)
      (routine known.no_way (next (if_false (nonzero (call (called
      (known.helpers.darkness s typed w d room stands))) (bit_tells (is_dark s) ∙ is)) end)
      (next (print (print_text print_nothing)) end)) at_end))
      (said_left (text_in style NoExitThere) stands)

  -- ---- the walk

  module _ (w : Stage) (stands : StandsFor db s typed w) (noun d : ℕ) (room : text_room ≤ d)
      (some : 1 ≤ noun) (direction : noun ≤ 6) where
    -- the room beyond the exit
    abbrev to : ℕ
    to = exit_of (length db.rooms) (room_at db s.room).exits (noun - 1)

    abbrev walk_body : Statements
    walk_body = body style db WALK

    abbrev with_room : ℕ → Scope
    with_room r = record {
      directive = known.walk.at;
      locals = (codes "n", pos noun) ∷ (codes "r", pos r) ∷ [];
    }

    abbrev warning : Bool → List ℕ
    warning b = if b then text_of DarkMove else []

    warned : (b : Bool) → is_dark s ≡ b → Executes p (suc d) (first_of walk_body) (with_room 0) w
        Normal (with_room 0) (said (warning b) w) (text_steps db + 4)
    unfolding body_of
    warned true is = within (omega arith) (if_true (nonzero (call (called
        (known.helpers.darkness s typed w (suc d) (omega (arith, room)) stands)))
        (bit_tells (is_dark s) ∙ is)) (next (print (print_text print_nothing)) end))
    warned false is = subst (λ w'. Executes p (suc d) (first_of walk_body) (with_room 0) w Normal
        (with_room 0) w' (text_steps db + 4)) (sym (said_nothing w)) (within (omega arith) (if_false
        (nonzero (call (called
        (known.helpers.darkness s typed w (suc d) (omega (arith, room)) stands)))
        (bit_tells (is_dark s) ∙ is)) end))

    -- the room is one of the database
    here : s.room < length db.rooms
    here = grind (arith, stands.ready.fits.rooms.room)

    few_rooms : length db.rooms ≤ 255
    few_rooms = few 255 db.rooms known.limits.sizes.rooms

    looked_up : (w1 : Stage) → StandsFor db s typed w1 → Executes p (suc d)
        (first_of (rest_of walk_body)) (with_room 0) w1 Normal (with_room to) w1 1
    unfolding body_of
    looked_up w1 stands1 = within (omega arith) (assign (set_variable (entry (sum_of_two
        (product_of_two number (global refl stands1.ready.shows.room_is)
        (small_product p.width 6 s.room (omega (arith, here, few_rooms))))
        (sum_of_two (local refl) number
        (small_difference p.width noun 1 some (omega (arith, direction))))
        (small_sum p.width (6 * s.room) (noun - 1) (omega (arith, here, few_rooms, direction))))
        stands1.ready.tables.exits_are
        (exit_at known.laws.exits_stand db s.room (noun - 1) known.limits here
        (omega (arith, direction)))) refl))

    -- the stage in which the player is there, and then the room is described again
    abbrev there_stage : Stage → Stage
    there_stage w1 = with_global (codes "here") (pos to) (said (text_of Moved) w1)

    abbrev moved_stage : Stage → Stage
    moved_stage w1 = with_global (codes "redraw") (pos 1) (there_stage w1)

    moved_left : (w1 : Stage) → StandsFor db s typed w1 → Fits db (moved_to to s)
        → StageLeft db (moved_to to s) typed (said_steps (text_of Moved)) w1 (moved_stage w1)
    moved_left w1 stands1 fits = record {
      stands = record {
        ready = record {
          shows = known.laws.globals_written.mark true (record s { room = to }) (there_stage w1)
              (known.laws.globals_written.room to s (said (text_of Moved) w1)
              (said_left (text_of Moved) stands1).stands.ready.shows);
          fits = fits;
          tables = stands1.ready.tables;
          working = stands1.ready.working;
        };
        has_noun = stands1.has_noun;
      };
      past_is = refl;
      lines_stay = refl;
      draws_stay = refl;
      globals_stay = λ name other.
          ap (λ (b : Bool). if b then Some (pos 1) else (there_stage w1).globals name)
          other.1.1.1.1.0
          ∙ ap (λ (b : Bool). if b then Some (pos to) else w1.globals name) other.0;
      arrays_stay = λ name other. refl;
    }

    -- by whether there is an exit
    abbrev beyond : Bool → Traced Step Progress
    beyond none = if none then no_way style (is_dark s) s else
        traced_text (text_of Moved) (goes_on (moved_to to s))

    walked : (b none : Bool) → is_dark s ≡ b → nat_eq to 0 ≡ none
        → Fits db (beyond none).value.state
        → let t = after (said_steps (warning b)) (beyond none) in
        CallActs t.value.over db p (suc (suc d)) (codes "walk") (pos noun ∷ []) w typed
        t.value.state t.events (walk_steps db)
    unfolding body_of
    walked b true dark is fits =
        let left : StageLeft db s typed (said_steps (warning b)) w (said (warning b) w) =
        said_left (warning b) stands in
        acts_within (omega arith) (acts_routine known.walk (acts_next (warned b dark) left
        (acts_next (looked_up (said (warning b) w) left.stands) (nothing_left left.stands)
        (acts_if (compare (local refl) number (eq_is to 0 ∙ is))
        (acts_call (λ e last w' m x. x) (no_way_by (said (warning b) w) left.stands d room
        (is_dark s) refl))))))
    walked b false dark is fits =
        let left : StageLeft db s typed (said_steps (warning b)) w (said (warning b) w) =
        said_left (warning b) stands in
        returns_acts (does_within (omega arith) (routine known.walk (next (warned b dark)
        (next (looked_up (said (warning b) w) left.stands)
        (next (if_false (compare (local refl) number (eq_is to 0 ∙ is)) end)
        (next (print (print_text print_nothing))
        (next (assign (set_variable (local refl) (ap is_some left.stands.ready.shows.room_is)))
        (next (assign (set_variable number (ap is_some left.stands.ready.shows.mark_is)))
        end)))))) at_end)) (left_then left (moved_left (said (warning b) w) left.stands fits))

    pub walk_acts : let t = walk_result (in_style style db) noun s in
        CallActs t.value.over db p (suc (suc d)) (codes "walk") (pos noun ∷ []) w typed
        t.value.state t.events (walk_steps db)
    walk_acts = walked (is_dark s) (nat_eq to 0) refl refl
        (known.laws.walk_fits (in_style style db) noun s known.limits stands.ready.fits)

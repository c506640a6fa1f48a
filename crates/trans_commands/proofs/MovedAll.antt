-- Getting and dropping all items.
use Rattle.std.proofs.Common.{◌≡◌, ◌∙◌, arith, ℕ, suc, ◌+◌, ◌≤◌, pos, Bool, true, false, if◌then◌else◌, List, [], ◌∷◌, ◌++◌, codes, Option, Some, None, refl, sym, ap, append-nil}
use Rattle.std.specs.Ordering.{int_eq}
use Rattle.adv_io.specs.Steps.{Step, Traced, said_steps}
use Rattle.inform_meaning.specs.Worlds.{Program}
use Rattle.inform_meaning.specs.Frames.{Normal}
use Rattle.inform_logic.specs.Stages.{Stage, said}
use Rattle.inform_logic.specs.Leading.{Tests, Runs, by_return, at_end}
use Rattle.inform_logic.specs.Stopping.{in_block}
use Rattle.inform_logic.proofs.Values.{within, number, local, call, called}
use Rattle.inform_logic.proofs.Conditions.{compare, nonzero, all_of, all_hold, one_holds, one_fails}
use Rattle.inform_logic.proofs.Changes.{set_variable}
use Rattle.inform_logic.proofs.Printing.{print_nothing, print_text}
use Rattle.inform_logic.proofs.Statements.{end, next, returns, print, if_true, if_false, return_true}
use Rattle.inform_logic.proofs.Loops.{for}
use Rattle.inform_logic.proofs.Routines.{does_within, routine}
use Rattle.inform_logic.proofs.Stops.{later, handed_up, routine_stops}
use Rattle.inform_codes.specs.Grown.{body_of}
use Rattle.scott_types.specs.declared.states.State.{State}
use Rattle.scott_types.specs.declared.styles.Style.{Style}
use Rattle.scott_types.specs.declared.endings.Transfer.{Transfer}
use Rattle.scott_types.specs.declared.endings.Transfer.TheVariants.{PickUp, PutDown}
use Rattle.scott_types.specs.declared.phrases.Phrase.TheVariants.{DarkGet}
use Rattle.scott_types.specs.Phrase.{text_of}
use Rattle.scott_types.specs.Database.{Database}
use Rattle.scott_types.specs.Style.{in_style}
use Rattle.scott_types.specs.State.{is_dark}
use Rattle.scott_rules.specs.Transfer.{verb_for, is_too_dark, AllOutcome, all_items, all_from, all_transferred, none_taken}
use Rattle.trans_specs.specs.Tables.{bit}
use Rattle.trans_specs.specs.Standing.{StandsFor}
use Rattle.trans_specs.specs.Steps.{text_steps}
use Rattle.trans_specs.specs.CommandSpecs.{search_room}
use Rattle.trans_specs.proofs.Left.{said_left, nothing_left, left_then}
use Rattle.trans_commands.proofs.Spent.{turns_steps, all_steps}
use Rattle.trans_specs.proofs.Acts.{CallActs, returns_acts, stops_within}
use Rattle.trans_commands.proofs.Blocks.{first_of, rest_of, test_of, block_of}
use Rattle.trans_commands.proofs.Known.{Known, body}
use Rattle.trans_specs.proofs.Entries.{bit_tells}
use Rattle.trans_commands.proofs.EachMoved.{at_item, TurnsActBy, turns_from}
use Rattle.trans_commands.specs.declared.transfers.TheConstants.{MOVE_ALL}

-- ---- what depends on whether items are got or dropped

module _ {style : Style} {db : Database} {p : Program} (known : Known style db p) (s : State)
    (typed : List ℕ) (w : Stage) (stands : StandsFor db s typed w) (d : ℕ)
    (room : search_room ≤ suc (suc d)) where
  -- whether it is too dark
  abbrev Dark : Transfer → Bool → Type 0
  Dark t b = Tests p (suc (suc (suc d))) (test_of (first_of (body style db MOVE_ALL)))
      (at_item known typed t d room 0 false) w b w (text_steps db + 1)

  -- the test whether it is too dark to get all has the answer of the rules
  dark : (t : Transfer) (b : Bool) → is_too_dark t s ≡ b → Dark t b
  unfolding body_of
  dark PickUp true is = within (omega arith) (all_of (one_holds (compare (local refl) number refl)
      (one_holds (nonzero (call (called (known.helpers.darkness s typed w (suc (suc (suc d)))
      (omega (arith, room)) stands))) (bit_tells (is_dark s) ∙ is)) all_hold)))
  dark PickUp false is = within (omega arith) (all_of (one_holds (compare (local refl) number refl)
      (one_fails (nonzero (call (called (known.helpers.darkness s typed w (suc (suc (suc d)))
      (omega (arith, room)) stands))) (bit_tells (is_dark s) ∙ is)))))
  dark PutDown true is = cc
  dark PutDown false is =
      within (omega arith) (all_of (one_fails (compare (local refl) number refl)))

  -- the text where none was taken
  none_said : (t : Transfer) (i : ℕ) (m : Bool) (w' : Stage) → Runs p (suc (suc (suc d)))
      (block_of (first_of (rest_of (rest_of (body style db MOVE_ALL)))))
      (at_item known typed t d room i m) w' Normal (at_item known typed t d room i m)
      (said (none_taken t) w') 3
  unfolding body_of
  none_said PickUp i m w' = within (omega arith) (next (if_true (compare (local refl) number refl)
      (next (print (print_text print_nothing)) end)) end)
  none_said PutDown i m w' = within (omega arith) (next (if_false
      (compare (local refl) number refl) (next (print (print_text print_nothing)) end)) end)

-- ---- the routine

module _ {style : Style} {db : Database} {p : Program} (known : Known style db p) (s : State)
    (typed : List ℕ) (w : Stage) (stands : StandsFor db s typed w) (t : Transfer) (d : ℕ)
    (room : search_room ≤ suc (suc d)) where
  abbrev Moves : Option ℕ → State → List Step → Type 0
  Moves over s' steps = CallActs over db p (suc (suc (suc (suc d)))) (codes "move_all")
      (pos (verb_for t) ∷ []) w typed s' steps (all_steps db)

  -- after the turns
  after_turns : (over : Option ℕ) (any : Bool) (s' : State) (steps : List Step)
      → is_too_dark t s ≡ false
      → TurnsActBy known typed t d room over 0 false any w s' steps (turns_steps db)
      → Moves over s' (steps ++ said_steps (if any then [] else none_taken t))
  unfolding body_of
  after_turns None true s' steps bright x = returns_acts (does_within (omega arith) (routine
      known.move_all (next (if_false (dark known s typed w stands d room t false bright) end)
      (next (for (set_variable number refl) x.turns) (next (if_false (compare (local refl) number
      (ap (λ b. int_eq (pos (bit b)) (pos 0)) x.mark_is)) end) end))) at_end))
      (left_then x.leaves (nothing_left x.leaves.stands))
  after_turns None false s' steps bright x = returns_acts (does_within (omega arith) (routine
      known.move_all (next (if_false (dark known s typed w stands d room t false bright) end)
      (next (for (set_variable number refl) x.turns) (next (if_true (compare (local refl) number
      (ap (λ b. int_eq (pos (bit b)) (pos 0)) x.mark_is))
      (none_said known s typed w stands d room t x.last x.mark x.after)) end))) at_end))
      (left_then x.leaves (said_left (none_taken t) x.leaves.stands))
  after_turns (Some ending) any s' steps bright x = record {
    acts = record {
      after = x.after;
      stops = stops_within (omega arith) (routine_stops known.move_all (later (λ e s'. next
          (if_false (dark known s typed w stands d room t false bright) end))
          (handed_up in_block (later (λ e s'. for (set_variable number refl)) x.stops))));
      shows = x.shows;
      past_is = x.past_is ∙ ap (λ past. w.past ++ past) (sym (append-nil steps)
          ∙ ap (λ (b : Bool). steps ++ said_steps (if b then [] else none_taken t))
          (sym x.any_is));
      over_is = x.over_is;
    };
  }

  -- `move_all` gets or drops all items as the rules do
  pub move_all : let r = all_transferred t (in_style style db) typed s in
      Moves r.value.over r.value.state r.events
  unfolding body_of
  move_all = by (is_too_dark t s) refl where
    by : (b : Bool) → is_too_dark t s ≡ b → let r = all_from b t (in_style style db) typed s in
        Moves r.value.over r.value.state r.events
    by true is = returns_acts (does_within (omega arith) (routine known.move_all (returns (if_true
        (dark known s typed w stands d room t true is)
        (next (print (print_text print_nothing)) (returns return_true)))) by_return))
        (said_left (text_of DarkGet) stands)
    by false is =
        let r : Traced Step AllOutcome = all_items t (in_style style db) typed 0 db.items s in
        after_turns r.value.over r.value.any_taken r.value.state r.events is
        (turns_from known typed t d room db.items 0 false s w stands refl (omega arith)).acts

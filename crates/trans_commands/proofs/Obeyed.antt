-- What a verb does: the lines for it, getting and dropping, and refusals.
use Rattle.std.proofs.Common.{◌≡◌, ◌∙◌, arith, ℕ, suc, ◌+◌, ◌<◌, ◌≤◌, ℤ, pos, nat_eq, Bool, true, false, if◌then◌else◌, List, [], ◌∷◌, ◌++◌, codes, Option, refl, sym, ap, subst, append-nil}
use Rattle.adv_io.specs.Steps.{Step, Traced, after, traced_text}
use Rattle.inform_tree.specs.declared.conditions.Relation.TheVariants.{Eq}
use Rattle.inform_meaning.specs.Words.{compares}
use Rattle.inform_meaning.specs.Worlds.{Program, Scope}
use Rattle.inform_meaning.specs.Frames.{Normal}
use Rattle.inform_logic.specs.Stages.{Stage, said}
use Rattle.inform_logic.specs.Leading.{Executes, Tests, by_return, at_end}
use Rattle.inform_logic.specs.Stopping.{in_block, in_assignment, in_set, in_call}
use Rattle.inform_logic.proofs.Words.{eq_is}
use Rattle.inform_logic.proofs.Values.{within, number, local, call, argument, called}
use Rattle.inform_logic.proofs.Conditions.{compare, nonzero, any_of, none_holds, this_holds, this_fails}
use Rattle.inform_logic.proofs.Changes.{set_variable}
use Rattle.inform_logic.proofs.Printing.{print_nothing, print_text}
use Rattle.inform_logic.proofs.Statements.{end, next, returns, assign, print, if_true, if_false, return_true}
use Rattle.inform_logic.proofs.Routines.{does_within, routine}
use Rattle.inform_logic.proofs.Stops.{later, handed_up, step_stops, called_stops, routine_stops}
use Rattle.inform_codes.specs.Grown.{body_of}
use Rattle.scott_types.specs.declared.states.State.{State}
use Rattle.scott_types.specs.declared.styles.Style.{Style}
use Rattle.scott_types.specs.declared.endings.Found.{Found}
use Rattle.scott_types.specs.declared.endings.Found.TheVariants.{NoMatch, Matched, Done, Over}
use Rattle.scott_types.specs.declared.endings.Transfer.{Transfer}
use Rattle.scott_types.specs.declared.endings.Transfer.TheVariants.{PickUp, PutDown}
use Rattle.scott_types.specs.Database.{Database}
use Rattle.scott_types.specs.Style.{in_style}
use Rattle.scott_rules.specs.Commands.{get_verb, drop_verb}
use Rattle.scott_rules.specs.Progress.{Progress, goes_on}
use Rattle.scott_rules.specs.Groups.{groups}
use Rattle.scott_rules.specs.Search.{SearchOutcome, search_result}
use Rattle.scott_rules.specs.Transfer.{verb_for, is_all, all_transferred, one_transferred, transfer}
use Rattle.scott_rules.specs.Rounds.{not_done, unmatched, by_found, by_actions}
use Rattle.trans_specs.specs.Tables.{bit, or_zero}
use Rattle.trans_specs.specs.Standing.{StandsFor}
use Rattle.trans_specs.specs.Calls.{CallLeaves}
use Rattle.trans_specs.specs.CommandSpecs.{IsNoun, SearchFinds, search_steps, search_room}
use Rattle.trans_specs.proofs.Left.{said_left, nothing_left, left_then}
use Rattle.trans_commands.proofs.Spent.{transfer_steps, obey_steps}
use Rattle.trans_specs.proofs.Acts.{CallActs, acts_within, acts_call, acts_if, acts_next, acts_routine, returns_acts, stops_within}
use Rattle.trans_commands.proofs.Blocks.{first_of, rest_of, test_of}
use Rattle.trans_commands.proofs.Known.{Known, body}
use Rattle.trans_specs.proofs.Entries.{bit_tells}
use Rattle.trans_commands.proofs.AllAsked.{all_asked}
use Rattle.trans_commands.proofs.MovedOne.{move_one}
use Rattle.trans_commands.proofs.MovedAll.{move_all}
use Rattle.trans_commands.specs.declared.commanding.TheConstants.{OBEY}

-- ---- getting and dropping

module _ {style : Style} {db : Database} {p : Program} (known : Known style db p) (s : State)
    (typed : List ℕ) (w : Stage) (stands : StandsFor db s typed w) (t : Transfer) (d : ℕ)
    (room : search_room ≤ suc (suc d)) where
  more_room : 100 ≤ suc d
  more_room = omega (arith, room)

  -- `transfer` gets or drops all items, or one, as the rules do
  pub transfer_acts : (noun : Option ℕ) → IsNoun db noun
      → let r = transfer t (in_style style db) typed noun s in CallActs r.value.over db p
      (suc (suc (suc (suc (suc d))))) (codes "transfer")
      (pos (verb_for t) ∷ pos (or_zero noun) ∷ []) w typed r.value.state r.events
      (transfer_steps db)
  unfolding body_of
  transfer_acts noun there = by (is_all typed) refl where
    by : (b : Bool) → is_all typed ≡ b
        → let r = if b then all_transferred t (in_style style db) typed s else
        one_transferred t (in_style style db) noun s in CallActs r.value.over db p
        (suc (suc (suc (suc (suc d))))) (codes "transfer")
        (pos (verb_for t) ∷ pos (or_zero noun) ∷ []) w typed r.value.state r.events
        (transfer_steps db)
    by true is = acts_within (omega arith) (acts_routine known.transfer (acts_if
        (nonzero (call (called (all_asked known s w (suc (suc (suc d))) typed stands)))
        (bit_tells (is_all typed) ∙ is))
        (acts_call (λ e last w' m x. within (omega arith) (argument (local refl) x))
        (move_all known s typed w stands t d room))))
    by false is = acts_within (omega arith) (acts_routine known.transfer (acts_next
        (if_false (nonzero (call (called (all_asked known s w (suc (suc (suc d))) typed stands)))
        (bit_tells (is_all typed) ∙ is)) end) (nothing_left stands)
        (acts_call (λ e last w' m x. within (omega arith)
        (argument (local refl) (argument (local refl) x)))
        (move_one known s typed w stands t (suc d) more_room noun there))))

-- ---- a verb

-- no head passed: one was there, or none was
abbrev unpassed : Bool → Found
unpassed true = Matched
unpassed false = NoMatch

not_two : (b : Bool) → compares Eq (pos (bit b)) (pos 2) ≡ false
not_two true = refl
not_two false = refl

module _ {style : Style} {db : Database} {p : Program} (known : Known style db p) (s : State)
    (typed : List ℕ) (w : Stage) (stands : StandsFor db s typed w) (verb : ℕ) (noun : Option ℕ)
    (some : 0 < verb) (there : IsNoun db noun) (d : ℕ) (room : search_room ≤ suc (suc d)) where
  abbrev searched : Traced Step SearchOutcome
  searched = search_result (in_style style db) typed verb noun (groups db) s

  abbrev values : List ℤ
  values = pos verb ∷ pos (or_zero noun) ∷ []

  abbrev Obeys : Traced Step Progress → Type 0
  Obeys r = CallActs r.value.over db p (suc (suc (suc (suc (suc (suc d)))))) (codes "obey") values w
      typed r.value.state r.events (obey_steps db)

  abbrev with_mark : ℕ → Scope
  with_mark m = record {
    directive = known.obey.at;
    locals = (codes "v", pos verb) ∷ (codes "n", pos (or_zero noun)) ∷ (codes "m", pos m) ∷ [];
  }

  module _ (m : ℕ) (left : CallLeaves p (suc (suc (suc (suc (suc d))))) (codes "search") values w
      (pos m) db searched.value.state typed searched.events (search_steps db)) where
    marked : Executes p (suc (suc (suc (suc (suc d))))) (first_of (body style db OBEY))
        (with_mark 0) w Normal (with_mark m) left.after (search_steps db + 2)
    unfolding body_of
    marked = within (omega arith) (assign (set_variable (call (argument (local refl)
        (argument (local refl) (called left.does)))) refl))

  -- a verb by its number
  as_verb : (t : Transfer) → nat_eq verb (verb_for t) ≡ true → pos (verb_for t) ≡ pos verb
  as_verb t is = ap pos (grind (arith, is))

  -- the refusal
  refusal_said : (matched : Bool) (w' : Stage) → Executes p (suc (suc (suc (suc (suc d)))))
      (first_of (rest_of (rest_of (rest_of (body style db OBEY))))) (with_mark (bit matched)) w'
      Normal (with_mark (bit matched)) (said (not_done style (unpassed matched)) w') 2
  unfolding body_of
  refusal_said true w' = within (omega arith) (if_true (compare (local refl) number refl)
      (next (print (print_text print_nothing)) end))
  refusal_said false w' = within (omega arith) (if_false (compare (local refl) number refl)
      (next (print (print_text print_nothing)) end))

  module _ (matched : Bool) (left : CallLeaves p (suc (suc (suc (suc (suc d))))) (codes "search")
      values w (pos (bit matched)) db searched.value.state typed searched.events
      (search_steps db)) where
    s1 : State
    s1 = searched.value.state

    transferred_by : (t : Transfer) → nat_eq verb (verb_for t) ≡ true
        → Tests p (suc (suc (suc (suc (suc d)))))
        (test_of (first_of (rest_of (rest_of (body style db OBEY))))) (with_mark (bit matched))
        left.after true left.after 0
        → Obeys (after searched.events
        (transfer t (in_style style db) typed noun searched.value.state))
    unfolding body_of
    transferred_by t is test = acts_within (omega arith) (acts_routine known.obey (acts_next
        (marked (bit matched) left) left.leaves
        (acts_next (if_false (compare (local refl) number (not_two matched)) end)
        (nothing_left left.leaves.stands)
        (acts_if test (acts_call (λ e last w' m x. within (omega arith)
        (argument (local refl) (argument (local refl) x)))
        (subst (λ v. CallActs (transfer t (in_style style db) typed noun
        searched.value.state).value.over db p (suc (suc (suc (suc (suc d))))) (codes "transfer")
        (v ∷ pos (or_zero noun) ∷ []) left.after typed
        (transfer t (in_style style db) typed noun searched.value.state).value.state
        (transfer t (in_style style db) typed noun searched.value.state).events
        (transfer_steps db)) (as_verb t is)
        (transfer_acts known searched.value.state typed left.after left.leaves.stands t d room noun
        there)))))))

    refused_by : nat_eq verb get_verb ≡ false → nat_eq verb drop_verb ≡ false
        → Obeys (after searched.events (traced_text (not_done style (unpassed matched))
        (goes_on searched.value.state)))
    unfolding body_of
    refused_by get drop = returns_acts (does_within (omega arith) (routine known.obey (next
        (marked (bit matched) left)
        (next (if_false (compare (local refl) number (not_two matched)) end)
        (next (if_false (any_of (this_fails (compare (local refl) number (eq_is verb 10 ∙ get))
        (this_fails (compare (local refl) number (eq_is verb 18 ∙ drop)) none_holds))) end)
        (next (refusal_said matched left.after) end)))) at_end))
        (left_then left.leaves (said_left (not_done style (unpassed matched)) left.leaves.stands))

    unpassed_acts : Obeys (after searched.events
        (unmatched (in_style style db) typed verb noun (unpassed matched) searched.value.state))
    unfolding body_of
    unpassed_acts = by (nat_eq verb get_verb) (nat_eq verb drop_verb) refl refl where
      by : (get drop : Bool) → nat_eq verb get_verb ≡ get → nat_eq verb drop_verb ≡ drop
          → Obeys (after searched.events
          (if get then transfer PickUp (in_style style db) typed noun searched.value.state else
          if drop then transfer PutDown (in_style style db) typed noun searched.value.state else
          traced_text (not_done style (unpassed matched)) (goes_on searched.value.state)))
      by true drop g h = transferred_by PickUp g
          (any_of (this_holds (compare (local refl) number (eq_is verb 10 ∙ g))))
      by false true g h = transferred_by PutDown h
          (any_of (this_fails (compare (local refl) number (eq_is verb 10 ∙ g))
          (this_holds (compare (local refl) number (eq_is verb 18 ∙ h)))))
      by false false g h = refused_by g h

  -- `obey` does what the rules do with a verb and a noun, whatever the search finds
  pub obey_acts : Obeys (by_actions (in_style style db) typed verb noun s)
  unfolding body_of
  obey_acts = by searched.value.found (known.searches verb noun s typed w
      (suc (suc (suc (suc (suc d))))) (omega (arith, room)) some there stands) where
        by : (found : Found) → SearchFinds found (in_style style db) p
            (suc (suc (suc (suc (suc d))))) (codes "search") values w typed searched
            → Obeys (after searched.events
            (by_found found (in_style style db) typed verb noun searched.value.state))
        by NoMatch left = unpassed_acts false left
        by Matched left = unpassed_acts true left
        by Done left = returns_acts (does_within (omega arith) (routine known.obey
            (next (marked 2 left) (returns (if_true (compare (local refl) number refl)
            (returns return_true)))) by_return))
            (left_then left.leaves (nothing_left left.leaves.stands))
        by (Over ending) x = record {
          acts = record {
            after = x.after;
            stops = stops_within (omega arith) (routine_stops known.obey (handed_up in_block
                (step_stops (handed_up in_assignment (handed_up in_set (handed_up in_call
                (later (λ e s'. argument (local refl)) (later (λ e s'. argument (local refl))
                (called_stops x.stops)))))))));
            shows = x.shows;
            past_is = x.past_is ∙ ap (λ past. w.past ++ past) (sym (append-nil searched.events));
            over_is = x.over_is;
          };
        }

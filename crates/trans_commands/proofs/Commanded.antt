-- A command.
use Rattle.std.proofs.Common.{◌≡◌, ◌∙◌, arith, ℕ, suc, ◌+◌, ◌-◌, ◌<◌, ◌≤◌, pos, nat_eq, nat_lt, Bool, true, false, not, if◌then◌else◌, List, [], ◌∷◌, codes, Option, Some, None, refl, subst}
use Rattle.adv_io.specs.Steps.{Step, Traced}
use Rattle.inform_meaning.specs.Worlds.{Program}
use Rattle.inform_logic.specs.Stages.{Stage}
use Rattle.inform_logic.specs.Leading.{by_return}
use Rattle.inform_logic.proofs.Words.{eq_is, le_is}
use Rattle.inform_logic.proofs.Values.{within, number, global, argument}
use Rattle.inform_logic.proofs.Conditions.{compare}
use Rattle.inform_logic.proofs.Printing.{print_nothing, print_text}
use Rattle.inform_logic.proofs.Statements.{end, next, returns, print, if_true, if_false, return_true}
use Rattle.inform_logic.proofs.Routines.{does_within, routine}
use Rattle.inform_logic.proofs.Holding.{has}
use Rattle.inform_codes.specs.Grown.{body_of}
use Rattle.scott_types.specs.declared.states.State.{State}
use Rattle.scott_types.specs.declared.styles.Style.{Style}
use Rattle.scott_types.specs.declared.phrases.Phrase.TheVariants.{NeedDirection}
use Rattle.scott_types.specs.Phrase.{text_of}
use Rattle.scott_types.specs.Database.{Database}
use Rattle.scott_types.specs.Style.{in_style}
use Rattle.scott_rules.specs.Commands.{go_verb, is_direction}
use Rattle.scott_rules.specs.Progress.{Progress}
use Rattle.scott_rules.specs.Rounds.{walk_result, by_actions, going, command_result}
use Rattle.trans_specs.proofs.Lengths.{there as is_there}
use Rattle.trans_specs.specs.Tables.{or_zero}
use Rattle.trans_specs.specs.Standing.{StandsFor}
use Rattle.trans_specs.specs.CommandSpecs.{IsNoun, CommandEnds, CommandSpec, command_steps, command_room, search_room}
use Rattle.trans_commands.specs.Laws.{CommandsMeetSpecs}
use Rattle.trans_specs.proofs.Left.{said_left, nothing_left}
use Rattle.trans_commands.proofs.Spent.{obey_steps, walk_steps, command_fits}
use Rattle.trans_specs.proofs.Acts.{CallActs, CallActsBy, acts_within, acts_call, acts_if, acts_next, acts_routine, returns_acts}
use Rattle.trans_commands.proofs.Known.{Laws, Known}
use Rattle.trans_commands.proofs.Tabled.{some_noun}
use Rattle.trans_commands.proofs.Walked.{walk_acts}
use Rattle.trans_commands.proofs.Obeyed.{obey_acts}

module _ {style : Style} {db : Database} {p : Program} (known : Known style db p) (s : State)
    (typed : List ℕ) (w : Stage) (stands : StandsFor db s typed w) (verb : ℕ)
    (spoken : 0 < verb) (verb_is : w.globals (codes "vnum") ≡ Some (pos verb)) (d : ℕ)
    (room : search_room ≤ suc (suc d)) where
  abbrev Commands : Traced Step Progress → Type 0
  Commands r = CallActs r.value.over db p (suc (suc (suc (suc (suc (suc (suc d)))))))
      (codes "command") [] w typed r.value.state r.events (obey_steps db + walk_steps db + 30)

  -- the verb is obeyed, whatever it is
  abbrev Obeys : Option ℕ → Traced Step Progress → Type 0
  Obeys noun r = CallActs r.value.over db p (suc (suc (suc (suc (suc (suc d)))))) (codes "obey")
      (pos verb ∷ pos (or_zero noun) ∷ []) w typed r.value.state r.events (obey_steps db)

  going_some : 0 < go_verb
  going_some = omega arith

  is_going : nat_eq verb go_verb ≡ true → go_verb ≡ verb
  is_going h = grind (arith, h)

  -- a noun from 1 on is a direction up to 6
  module _ (noun : ℕ) (some : 0 < noun) where
    direction_few : is_direction noun ≡ true → noun ≤ 6
    direction_few h = grind (arith, h)

    direction_is : (b : Bool) → is_direction noun ≡ b → not (nat_lt 6 noun) ≡ b
    direction_is true h = grind (arith, h)
    direction_is false h = grind (arith, h, some)

  -- where the verb is go, `command` does what the rules do, with a noun or without one
  goes : nat_eq verb go_verb ≡ true → (noun : Option ℕ)
      → w.globals (codes "nnum") ≡ Some (pos (or_zero noun)) → IsNoun db noun
      → Commands (going (in_style style db) typed noun s)
  unfolding body_of
  goes is None noun_is there = returns_acts (does_within (omega arith) (routine known.command
      (returns (if_true (compare (global refl verb_is) number (eq_is verb 1 ∙ is))
      (returns (if_true (compare (global refl noun_is) number refl)
      (next (print (print_text print_nothing)) (returns return_true)))))) by_return))
      (said_left (text_of NeedDirection) stands)
  goes is (Some noun) noun_is there = by (is_direction noun) refl where
    by : (b : Bool) → is_direction noun ≡ b
        → Commands (if b then walk_result (in_style style db) noun s else
        by_actions (in_style style db) typed go_verb (Some noun) s)
    by true direction = acts_within (omega arith) (acts_routine known.command (acts_if
        (compare (global refl verb_is) number (eq_is verb 1 ∙ is))
        (acts_next (if_false (compare (global refl noun_is) number
        (eq_is noun 0 ∙ some_noun noun there.0)) end) (nothing_left stands)
        (acts_if (compare (global refl noun_is) number
        (le_is noun 6 ∙ direction_is noun there.0 true direction))
        (acts_call (λ e last w' m x. within (omega arith) (argument (global refl noun_is) x))
        (walk_acts known s typed w stands noun (suc (suc (suc (suc d)))) (omega (arith, room))
        there.0 (direction_few noun there.0 direction)))))))
    by false direction = acts_within (omega arith) (acts_routine known.command (acts_next (if_true
        (compare (global refl verb_is) number (eq_is verb 1 ∙ is))
        (next (if_false (compare (global refl noun_is) number
        (eq_is noun 0 ∙ some_noun noun there.0)) end)
        (next (if_false (compare (global refl noun_is) number
        (le_is noun 6 ∙ direction_is noun there.0 false direction)) end) end)))
        (nothing_left stands)
        (acts_call (λ e last w' m x. within (omega arith)
        (argument (global refl verb_is) (argument (global refl noun_is) x)))
        (subst (λ v. CallActs
        (by_actions (in_style style db) typed go_verb (Some noun) s).value.over db p
        (suc (suc (suc (suc (suc (suc d)))))) (codes "obey") (pos v ∷ pos noun ∷ []) w typed
        (by_actions (in_style style db) typed go_verb (Some noun) s).value.state
        (by_actions (in_style style db) typed go_verb (Some noun) s).events (obey_steps db))
        (is_going is) (obey_acts known s typed w stands go_verb
        (Some noun) going_some there d room)))))

  -- `command` does what the rules do with the verb and the noun
  command_acts : (noun : Option ℕ) → w.globals (codes "nnum") ≡ Some (pos (or_zero noun))
      → IsNoun db noun → Commands (command_result (in_style style db) typed verb noun s)
  unfolding body_of
  command_acts noun noun_is there = by (nat_eq verb go_verb) refl where
    by : (b : Bool) → nat_eq verb go_verb ≡ b
        → Commands (if b then going (in_style style db) typed noun s else
        by_actions (in_style style db) typed verb noun s)
    by true is = goes is noun noun_is there
    by false is = acts_within (omega arith) (acts_routine known.command (acts_next (if_false
        (compare (global refl verb_is) number (eq_is verb 1 ∙ is)) end) (nothing_left stands)
        (acts_call (λ e last w' m x. within (omega arith)
        (argument (global refl verb_is) (argument (global refl noun_is) x)))
        (obey_acts known s typed w stands verb noun spoken there d room))))

-- ---- the specification

ends_by : (style : Style) {db : Database} {p : Program} {d : ℕ} {w : Stage} {typed : List ℕ}
    {over : Option ℕ} (t : Traced Step Progress)
    → CallActs over db p d (codes "command") [] w typed t.value.state t.events (command_steps db)
    → CommandEnds over (in_style style db) p d (codes "command") w typed t
ends_by style {db} {p} {d} {w} {typed} {over} t x = by over x.acts where
  by : (over : Option ℕ)
      → CallActsBy over db p d (codes "command") [] w typed t.value.state t.events
      (command_steps db) → CommandEnds over (in_style style db) p d (codes "command") w typed t
  by None x = record { value = x.value; leaves = x.leaves }
  by (Some ending) x = x

-- a number of calls from which seven were taken
seven_less : (P : ℕ → Type 0) (d : ℕ) → command_room ≤ d
    → ((k : ℕ) → search_room ≤ suc (suc k) → P (suc (suc (suc (suc (suc (suc (suc k)))))))) → P d
seven_less P d h by = subst P is (by (d - 7) (omega (arith, h))) where
  is : suc (suc (suc (suc (suc (suc (suc (d - 7))))))) ≡ d
  is = omega (arith, h)

command_spec : {style : Style} {db : Database} {p : Program} → Known style db p
    → CommandSpec (in_style style db) p (codes "command")
command_spec {style} {db} {p} known verb noun s typed w d room some there verb_is noun_is stands =
    seven_less (λ d. CommandEnds
    (command_result (in_style style db) typed verb noun s).value.over (in_style style db) p d
    (codes "command") w typed (command_result (in_style style db) typed verb noun s)) d room
    (λ k few. ends_by style
    (command_result (in_style style db) typed verb noun s)
    (acts_within (command_fits db (is_there 255 db.items known.limits.sizes.items))
    (command_acts known s typed w stands verb some verb_is k few noun noun_is there)))

-- where a program serves the routines of commands, and the search and the routines of items meet
-- their specifications, `command` meets its specification
pub commands_meet_specs : Laws → CommandsMeetSpecs
commands_meet_specs laws style width db p translates serves helpers searches = command_spec (record {
  limits = translates.limits;
  laws = laws;
  helpers = helpers;
  searches = searches;
  command = has p serves.holds.0 (serves.notes_lines (codes "command") _);
  obey = has p serves.holds.1.0 (serves.notes_lines (codes "obey") _);
  walk = has p serves.holds.1.1.0 (serves.notes_lines (codes "walk") _);
  no_way = has p serves.holds.1.1.1.0 (serves.notes_lines (codes "no_way") _);
  transfer = has p serves.holds.1.1.1.1.0 (serves.notes_lines (codes "transfer") _);
  is_all = has p serves.holds.1.1.1.1.1.0 (serves.notes_lines (codes "is_all") _);
  move_all = has p serves.holds.1.1.1.1.1.1.0 (serves.notes_lines (codes "move_all") _);
  move_next = has p serves.holds.1.1.1.1.1.1.1.0 (serves.notes_lines (codes "move_next") _);
  move_one = has p serves.holds.1.1.1.1.1.1.1.1.0 (serves.notes_lines (codes "move_one") _);
  find_item = has p serves.holds.1.1.1.1.1.1.1.1.1.0 (serves.notes_lines (codes "find_item") _);
  at_hand = has p serves.holds.1.1.1.1.1.1.1.1.1.1.0 (serves.notes_lines (codes "at_hand") _);
  can_take = has p serves.holds.1.1.1.1.1.1.1.1.1.1.1.0 (serves.notes_lines (codes "can_take") _);
  is_refused =
      has p serves.holds.1.1.1.1.1.1.1.1.1.1.1.1.0 (serves.notes_lines (codes "is_refused") _);
  put_item =
      has p serves.holds.1.1.1.1.1.1.1.1.1.1.1.1.1.0 (serves.notes_lines (codes "put_item") _);
})

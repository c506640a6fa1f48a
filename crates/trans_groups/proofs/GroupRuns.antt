-- A group's routine meets its specification, where that of each line does.
use Rattle.std.proofs.Common.{◌≡◌, ◌∙◌, arith, ℕ, suc, ◌+◌, ◌*◌, ◌<◌, ◌≤◌, ℤ, pos, Bool, true, false, List, [], ◌∷◌, ◌++◌, length, codes, Option, Some, None, refl, sym, ap, subst, append-nil, append_assoc, true≢false}
use Rattle.std.proofs.lemmas.Int.{ints}
use Rattle.adv_io.specs.Steps.{Step, Traced, after}
use Rattle.inform_tree.specs.declared.conditions.Relation.TheVariants.{Eq}
use Rattle.inform_tree.specs.Statements.{statements}
use Rattle.inform_tree.specs.Programs.{RoutineTree}
use Rattle.inform_meaning.specs.Words.{compares}
use Rattle.inform_meaning.specs.Worlds.{Program, Scope}
use Rattle.inform_logic.specs.Stages.{Stage}
use Rattle.inform_logic.specs.Leading.{by_return}
use Rattle.inform_logic.specs.Holding.{Has}
use Rattle.inform_logic.specs.Stopping.{in_block, in_assignment, in_set, in_call, in_return}
use Rattle.inform_logic.proofs.Values.{local, number, call, called}
use Rattle.inform_logic.proofs.Conditions.{compare}
use Rattle.inform_logic.proofs.Changes.{set_variable}
use Rattle.inform_logic.proofs.Statements.{end, next, returns, return, assign, if_true, if_false}
use Rattle.inform_logic.proofs.Routines.{does_within, routine}
use Rattle.inform_logic.proofs.Stops.{later, handed_up, step_stops, called_stops, routine_stops}
use Rattle.scott_types.specs.declared.states.State.{State}
use Rattle.scott_types.specs.declared.endings.Ran.{Ran}
use Rattle.scott_types.specs.declared.endings.Ran.TheVariants.{Not, Passed, Over}
use Rattle.scott_types.specs.Database.{action_at}
use Rattle.scott_types.specs.Style.{Game}
use Rattle.scott_rules.specs.Progress.{goes_on}
use Rattle.scott_rules.specs.Actions.{ActionOutcome, goes_on_after, try_action}
use Rattle.scott_rules.specs.Groups.{Group, tail_tried, passed_or_over, with_tail, after_head, group_tried}
use Rattle.trans_specs.specs.Standing.{StandsFor}
use Rattle.trans_specs.specs.Steps.{line_steps}
use Rattle.trans_specs.specs.Names.{group_name, line_name}
use Rattle.trans_specs.specs.Lines.{group_parts}
use Rattle.trans_specs.specs.Calls.{StageLeft, CallLeaves}
use Rattle.trans_specs.specs.ActionSpecs.{line_room, LineSpec}
use Rattle.trans_specs.proofs.Room.{one_less}
use Rattle.trans_specs.proofs.Left.{left_then}
use Rattle.trans_specs.proofs.Acts.{stops_within}
use Rattle.trans_groups.specs.GroupSpecs.{group_steps, CallRan, GroupSpec}
use Rattle.trans_groups.proofs.Heads.{GroupStands, tried_of}
use Rattle.trans_groups.proofs.Zeros.{zero_tail, passed_is}
use Rattle.trans_groups.proofs.Tails.{line_ran, BlockPassesBy, BlockPasses, calls_of, tail_does}

-- the routine of a head, by whether its line goes on and by the lines of its tail
abbrev routine_by : ℕ → Bool → List ℕ → RoutineTree
routine_by head more tail = let parts = group_parts more head tail in
    record { name = group_name head; locals = parts.0; body = statements parts.1 }

module _ (game : Game) (p : Program) (meets : LineSpec game p) (g : Group)
    (there : GroupStands game.db g) (s : State) (noun : List ℕ) (w : Stage) (d : ℕ)
    (room : line_room ≤ d) (stands : StandsFor game.db s noun w) where
  -- the head's line
  abbrev t : Traced Step ActionOutcome
  t = try_action game noun g.head s

  abbrev Acts : Ran → Traced Step ActionOutcome → Type 0
  Acts ran r = CallRan ran game.db p (suc d) (group_name g.head) w noun r.value.state r.events
      (group_steps game.db g)

  abbrev HeadRan : Ran → Type 0
  HeadRan ran = CallRan ran game.db p d (line_name g.head) w noun t.value.state t.events
      (line_steps game.db)

  head_ran : HeadRan t.value.ran
  head_ran = line_ran game p d g.head w noun t.value.ran t (meets g.head s noun w d room there.head
      stands)

  some_steps : line_steps game.db + 4 ≤ group_steps game.db g
  some_steps = omega (arith, least (length g.tail) (line_steps game.db + 2)) where
    least : (n x : ℕ) → x ≤ (n + 1) * x
    least n x = omega arith

  tail_steps : line_steps game.db + 6 + length g.tail * (line_steps game.db + 2)
      ≤ group_steps game.db g
  tail_steps = omega (arith, parts (length g.tail) (line_steps game.db + 2)) where
    parts : (n x : ℕ) → (n + 1) * x ≡ x + n * x
    parts n x = omega arith

  -- ---- a head that is all of its routine

  abbrev Alone : Type 0
  Alone = Has p (record {
    name = group_name g.head;
    locals = [];
    body = (routine_by g.head false []).body;
  })

  -- where its line returns a value, the routine of a head alone returns it, and all is left as then
  alone_leaves : Alone → {v : ℤ}
      → CallLeaves p d (line_name g.head) [] w v game.db t.value.state noun t.events
      (line_steps game.db)
      → CallLeaves p (suc d) (group_name g.head) [] w v game.db t.value.state noun t.events
      (group_steps game.db g)
  alone_leaves has x = record {
    after = x.after;
    does = does_within (omega (arith, some_steps))
        (routine has (returns (return (call (called x.does)))) by_return);
    leaves = x.leaves;
  }

  -- the routine of a head alone does what the rules do, however its line ends, where a line that
  -- goes on has no others to try
  alone : Alone → (t.value.ran ≡ Passed true → tried_of game.db g.tail ≡ []) → (ran : Ran)
      → t.value.ran ≡ ran → HeadRan ran
      → let r = after_head ran game noun g.tail t in Acts r.value.ran r
  alone has none Not is x = subst (λ ran. Acts ran t) (sym is) (alone_leaves has x)
  alone has none (Passed false) is x = subst (λ ran. Acts ran t) (sym is) (alone_leaves has x)
  alone has none (Passed true) is x = let y = alone_leaves has x in
      subst (λ rest. Acts (with_tail rest).value.ran (after t.events (with_tail rest)))
      (sym (zero_tail game noun g.tail (none is) t.value.state)) (record {
        after = y.after;
        does = y.does;
        leaves = subst (λ steps. StageLeft game.db t.value.state noun steps w y.after)
            (sym (append-nil t.events)) y.leaves;
      })
  alone has none (Over ending) is x = subst (λ ran. Acts ran t) (sym is) (record {
    after = x.after;
    stops = stops_within (omega (arith, some_steps)) (routine_stops has (handed_up in_block
        (step_stops (handed_up in_return (handed_up in_call (called_stops x.stops))))));
    shows = x.shows;
    past_is = x.past_is;
    over_is = x.over_is;
  })

  -- ---- a head with a tail

  module _ (k : ℕ) (ks : List ℕ) (tail_is : tried_of game.db g.tail ≡ k ∷ ks)
      (has : Has p (routine_by g.head true (k ∷ ks))) where
    -- the scope, where the head gave a value
    abbrev scope : ℤ → Scope
    scope v = record { directive = has.at; locals = (codes "r", v) ∷ [] }

    -- a head after which no line is tried
    no_tail : (v : ℕ) → v < 2
        → CallLeaves p d (line_name g.head) [] w (pos v) game.db t.value.state noun t.events
        (line_steps game.db)
        → CallLeaves p (suc d) (group_name g.head) [] w (pos v) game.db t.value.state noun t.events
        (group_steps game.db g)
    no_tail v few x = record {
      after = x.after;
      does = does_within (omega (arith, some_steps)) (routine has
          (next (assign (set_variable (call (called x.does)) refl))
          (next (if_false (compare (local refl) number (other v few)) end)
          (returns (return (local refl))))) by_return);
      leaves = x.leaves;
    } where
      other : (v : ℕ) → v < 2 → compares Eq (pos v) (pos 2) ≡ false
      other v few = grind (arith, ints, few)

    -- the lines of the tail, and the value of the head
    tail_then : (over : Option ℕ) (u : State) (steps : List Step)
        (x : CallLeaves p d (line_name g.head) [] w (pos 2) game.db t.value.state noun t.events
        (line_steps game.db))
        → BlockPassesBy over game.db p d (calls_of (k ∷ ks)) (scope (pos 2)) x.after noun u steps
        (length g.tail * (line_steps game.db + 2))
        → CallRan (passed_or_over over) game.db p (suc d) (group_name g.head) w noun u
        (t.events ++ steps) (group_steps game.db g)
    tail_then None u steps x r = record {
      after = r.after;
      does = does_within (omega (arith, tail_steps)) (routine has
          (next (assign (set_variable (call (called x.does)) refl))
          (next (if_true (compare (local refl) number refl) r.runs)
          (returns (return (local refl))))) by_return);
      leaves = left_then x.leaves r.leaves;
    }
    tail_then (Some ending) u steps x r = record {
      after = r.after;
      stops = stops_within (omega (arith, tail_steps)) (routine_stops has (later (λ e s' run.
          next (assign (set_variable (call (called x.does)) refl)) run) (handed_up in_block
          (later (λ e s' run. if_true (compare (local refl) number refl) run) r.stops))));
      shows = r.shows;
      past_is = r.past_is ∙ ap (λ past. past ++ steps) x.leaves.past_is
          ∙ append_assoc w.past t.events steps;
      over_is = r.over_is;
    }

    with_its_tail : (ran : Ran) → t.value.ran ≡ ran → HeadRan ran
        → let r = after_head ran game noun g.tail t in Acts r.value.ran r
    with_its_tail Not is x = subst (λ ran. Acts ran t) (sym is) (no_tail 0 (omega arith) x)
    with_its_tail (Passed false) is x =
        subst (λ ran. Acts ran t) (sym is) (no_tail 1 (omega arith) x)
    with_its_tail (Passed true) is x = let rest = tail_tried game noun g.tail t.value.state in
        tail_then rest.value.over rest.value.state rest.events x (subst (λ lines. BlockPasses
        rest.value.over game.db p d
        (calls_of lines) (scope (pos 2)) x.after noun rest.value.state rest.events
        (length g.tail * (line_steps game.db + 2))) tail_is
        (tail_does game p meets noun d room (scope (pos 2)) g.tail there.tail t.value.state x.after
        x.leaves.stands)).acts
    with_its_tail (Over ending) is x = subst (λ ran. Acts ran t) (sym is) (record {
      after = x.after;
      stops = stops_within (omega (arith, some_steps)) (routine_stops has (handed_up in_block
          (step_stops (handed_up in_assignment (handed_up in_set (handed_up in_call
          (called_stops x.stops)))))));
      shows = x.shows;
      past_is = x.past_is;
      over_is = x.over_is;
    })

  -- ---- either

  group_is_tried : (more : Bool) (tail : List ℕ) → goes_on_after (action_at game.db g.head) ≡ more
      → tried_of game.db g.tail ≡ tail → Has p (routine_by g.head more tail)
      → let r = group_tried game noun g s in Acts r.value.ran r
  group_is_tried true (k ∷ ks) goes_on is has =
      with_its_tail k ks is has t.value.ran refl head_ran
  group_is_tried true [] goes_on is has = alone has (λ passed. is) t.value.ran refl head_ran
  group_is_tried false tail goes_on is has = alone has (λ passed. absurd
      (true≢false (sym (passed_is game noun g.head s true passed) ∙ goes_on))) t.value.ran refl
      head_ran

pub group_spec : (game : Game) (p : Program) → LineSpec game p → (g : Group) → GroupStands game.db g
    → Has p (routine_by g.head (goes_on_after (action_at game.db g.head)) (tried_of game.db g.tail))
    → GroupSpec game p g
group_spec game p meets g there has s noun w d room stands =
    one_less (λ d. let r = group_tried game noun g s in CallRan r.value.ran game.db p d
    (group_name g.head) w noun r.value.state r.events (group_steps game.db g)) 120 d room
    (λ k few. group_is_tried game p meets g there s noun w k few stands
    (goes_on_after (action_at game.db g.head)) (tried_of game.db g.tail) refl refl has)

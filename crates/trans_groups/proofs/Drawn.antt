-- The automatic step meets its specification, where each group does.
use Rattle.std.proofs.Common.{◌≡◌, ◌∙◌, arith, ℕ, suc, ◌==◌, ℤ, ◌<◌, ◌≤◌, ◌%◌, pos, nat_le, Bool, true, false, if◌then◌else◌, List, [], ◌∷◌, codes, None, is_some, refl, sym, append-nil}
use Rattle.std.specs.List.{AllByRecursion, list_all}
use Rattle.std.proofs.lemmas.Bool.{and_parts}
use Rattle.std.proofs.lemmas.Int.{ints}
use Rattle.adv_io.specs.Steps.{Step, Drew, Traced, after}
use Rattle.adv_draws.specs.Run.{is_draw, AllDraws}
use Rattle.inform_tree.specs.declared.conditions.Relation.TheVariants.{Le}
use Rattle.inform_tree.specs.Values as v
use Rattle.inform_tree.specs.Conditions as c
use Rattle.inform_tree.specs.Statements.{statements}
use Rattle.inform_meaning.specs.Words.{compares}
use Rattle.inform_meaning.specs.Worlds.{Program, Scope}
use Rattle.inform_logic.specs.Stages.{Stage, with_global, draw_taken}
use Rattle.inform_logic.specs.Leading.{Tests, at_end}
use Rattle.inform_logic.specs.Holding.{Has}
use Rattle.inform_logic.specs.Stopping.{in_block, in_if, in_comparison, in_call_alone}
use Rattle.inform_logic.proofs.Words.{small_number, small_draw}
use Rattle.inform_logic.proofs.Values.{within, valued, number, random, called}
use Rattle.inform_logic.proofs.Conditions.{compare}
use Rattle.inform_logic.proofs.Changes.{set_variable}
use Rattle.inform_logic.proofs.Statements.{end, next, assign, call_alone, if_true, if_false}
use Rattle.inform_logic.proofs.Holding.{has}
use Rattle.inform_logic.proofs.Routines.{does_within, routine}
use Rattle.inform_logic.proofs.Stops.{later, handed_up, step_stops, called_stops, random_waits, routine_stops}
use Rattle.scott_types.specs.declared.states.State.{State}
use Rattle.scott_types.specs.declared.endings.Ran.{Ran}
use Rattle.scott_types.specs.declared.endings.Ran.TheVariants.{Not, Passed, Over}
use Rattle.scott_types.specs.declared.endings.Halt.{Halt}
use Rattle.scott_types.specs.declared.endings.Halt.TheVariants.{Through, Waits, Over as AtEnd}
use Rattle.scott_types.specs.Database.{Database}
use Rattle.scott_types.specs.Style.{Game, in_style}
use Rattle.scott_types.specs.Action.{verb_of, noun_of}
use Rattle.scott_rules.specs.Actions.{ActionOutcome}
use Rattle.scott_rules.specs.Groups.{Group, groups, group_tried, over_of, AutoOutcome, auto_after, auto_tried, auto_drawn, auto_group, automatic}
use Rattle.trans_specs.specs.Standing.{StandsFor}
use Rattle.trans_specs.specs.Names.{group_name}
use Rattle.trans_specs.specs.Calls.{CallLeaves}
use Rattle.trans_specs.specs.CommandSpecs.{search_steps}
use Rattle.trans_specs.specs.AutomaticSpecs.{AutomaticHalts}
use Rattle.trans_specs.proofs.Room.{one_less}
use Rattle.trans_specs.proofs.Acts.{stops_within}
use Rattle.trans_groups.specs.GroupSpecs.{CallRan, group_room, group_steps, GroupSpec}
use Rattle.trans_groups.specs.Automatic.{chance, chances, automatic_routine}
use Rattle.trans_groups.specs.Laws.{AutomaticMeetsSpec}
use Rattle.trans_groups.proofs.Counted.{tries_steps, enough_steps}
use Rattle.trans_groups.proofs.Steps.{StepActsBy, StepActs, past_of, step_within, step_then}

-- ---- a chance

-- what a stage stands for doesn't depend on its draws
stands_drawn : {db : Database} {s : State} {noun : List ℕ} {w : Stage} (draw : ℕ) (draws : List ℕ)
    → StandsFor db s noun w → StandsFor db s noun (draw_taken draw draws w)
stands_drawn draw draws h = record {
  ready = record {
    shows = h.ready.shows;
    fits = h.ready.fits;
    tables = h.ready.tables;
    working = h.ready.working;
  };
  has_noun = h.has_noun;
}

module _ {p : Program} {d : ℕ} {scope : Scope} where
  -- the draw is compared with the noun
  tested : (w : Stage) (draw : ℕ) (draws : List ℕ) (vocab : ℕ) → w.draws ≡ draw ∷ draws
      → is_draw draw ≡ true → (b : Bool) → nat_le draw (noun_of vocab) ≡ b
      → Tests p d (c.Compare Le (v.Random (v.Number 100)) (v.Number (noun_of vocab))) scope w b
      (draw_taken draw draws w) 0
  tested w draw draws vocab there fair b is = compare
      (valued (small_draw 100 draw (some draw parts.0) (few draw parts.1)) (random number refl
      there))
      (valued (small_number p.width small) number) (as_numbers draw (noun_of vocab) ∙ is) where
        parts : (nat_le 1 draw ≡ true) × (nat_le draw 100 ≡ true)
        parts = and_parts (nat_le 1 draw) (nat_le draw 100) fair

        some : (n : ℕ) → nat_le 1 n ≡ true → 1 ≤ n
        some n h = grind (arith, h)

        few : (n : ℕ) → nat_le n 100 ≡ true → n ≤ 100
        few n h = grind (arith, h)

        small : noun_of vocab < 32768
        small = let less : vocab % 150 < 150 = omega arith in omega (arith, less)

        as_numbers : (a b : ℕ) → compares Le (pos a) (pos b) ≡ nat_le a b
        as_numbers a b = grind (arith, ints)

module _ (game : Game) (p : Program) (d : ℕ) (room : group_room ≤ d) (scope : Scope) where
  -- these groups have their chances
  abbrev Acts : Halt → List Group → Stage → Traced Step AutoOutcome → ℕ → Type 0
  Acts halt gs w t most = StepActs halt game.db p d (statements (chances gs)) scope w t.value.state
      t.value.draws t.events most

  abbrev ActsAll : List Group → Type 0
  ActsAll gs = (s : State) (w : Stage) (draws : List ℕ) → w.draws ≡ draws → AllDraws draws
      → StandsFor game.db s [] w → let t = automatic game gs s draws in
      Acts t.value.halt gs w t (tries_steps game.db gs)

  module _ (g : Group) (gs : List Group) (s : State) (w : Stage)
      (stands : StandsFor game.db s [] w) where
    -- the chance of a group, and the others
    abbrev Chance : Traced Step AutoOutcome → Type 0
    Chance r = StepActs r.value.halt game.db p d
        (statements (chance (noun_of g.vocab) g.head ∷ chances gs)) scope w r.value.state
        r.value.draws r.events (tries_steps game.db (g ∷ gs))

    -- no draw is left
    waits : w.draws ≡ []
        → Chance (record {
          events = [];
          value = record {
            state = s;
            draws = [];
            halt = Waits g.head;
          };
        })
    waits there = record {
      acts = record {
        after = w;
        stops = later (λ e s' run. within (omega arith) run) (handed_up in_block (step_stops
            (handed_up in_if (handed_up in_comparison (random_waits number refl there)))));
        shows = stands.ready.shows;
        past_is = sym (append-nil w.past);
        over_stays = refl;
      };
    }

    module _ (draw : ℕ) (draws : List ℕ) (more : ActsAll gs) (fair : AllDraws draws) where
      abbrev drew : Stage
      drew = draw_taken draw draws w

      abbrev Tested : Bool → Type 0
      Tested b = Tests p d (c.Compare Le (v.Random (v.Number 100)) (v.Number (noun_of g.vocab)))
          scope w b drew 0

      -- the draw is above the noun
      passed_by : Tested false → Chance (after (Drew draw ∷ []) (automatic game gs s draws))
      passed_by test = step_within (omega arith) (step_then (Drew draw ∷ [])
          (automatic game gs s draws).events (if_false test end)
          (record { past_is = refl; lines_stay = refl; over_stays = refl })
          (more s drew draws refl fair (stands_drawn draw draws stands)))

      -- the group is tried, and the game goes on
      went_on : (t : Traced Step ActionOutcome) {v : ℤ} → Tested true
          → CallLeaves p d (group_name g.head) [] drew v game.db t.value.state [] t.events
          (group_steps game.db g)
          → Chance (after (Drew draw ∷ [])
          (auto_after None t draws (automatic game gs)))
      went_on t test x = step_within (omega arith) (step_then (Drew draw ∷ t.events)
          (automatic game gs t.value.state draws).events
          (if_true test (next (call_alone (called x.does)) end))
          (record {
            past_is = past_of w.past (Drew draw ∷ []) t.events refl x.leaves.past_is;
            lines_stay = x.leaves.lines_stay;
            over_stays = x.leaves.globals_stay (codes "over")
                (refl, (refl, (refl, (refl, (refl, tt)))));
          })
          (more t.value.state x.after draws x.leaves.draws_stay fair x.leaves.stands))

      tried : (ran : Ran) (t : Traced Step ActionOutcome) → Tested true
          → CallRan ran game.db p d (group_name g.head) drew [] t.value.state t.events
          (group_steps game.db g)
          → Chance (after (Drew draw ∷ []) (auto_after (over_of ran) t draws (automatic game gs)))
      tried Not t test x = went_on t test x
      tried (Passed goes_on) t test x = went_on t test x
      tried (Over ending) t test x = record {
        acts = record {
          after = x.after;
          stops = later (λ e s' run. within (omega arith) run) (handed_up in_block
              (later (λ e s' run. if_true test run) (handed_up in_block (step_stops
              (handed_up in_call_alone (called_stops x.stops))))));
          shows = x.shows;
          past_is = past_of w.past (Drew draw ∷ []) t.events refl x.past_is;
          over_is = x.over_is;
        };
      }

      chosen : GroupSpec game p g → (b : Bool) → Tested b
          → Chance (after (Drew draw ∷ []) (auto_tried b game g s draws (automatic game gs)))
      chosen meets true test = let t = group_tried game [] g s in
          tried t.value.ran t test (meets s [] drew d room (stands_drawn draw draws stands))
      chosen meets false test = passed_by test

    drawn : GroupSpec game p g → ActsAll gs → (draws : List ℕ) → w.draws ≡ draws → AllDraws draws
        → Chance (auto_drawn game g s draws (automatic game gs))
    drawn meets more [] there fair = waits there
    drawn meets more (draw ∷ draws) there fair =
        let parts = and_parts (is_draw draw) (list_all is_draw draws) fair in
        chosen draw draws more parts.1 meets (nat_le draw (noun_of g.vocab))
        (tested w draw draws g.vocab there parts.0 (nat_le draw (noun_of g.vocab)) refl)

  -- the chances of these groups do what the automatic step of the rules does with them
  chances_do : (gs : List Group) → AllByRecursion (GroupSpec game p) gs → ActsAll gs
  chances_do [] meets s w draws there fair stands = record {
    acts = record {
      after = w;
      runs = end;
      stands = stands;
      past_is = sym (append-nil w.past);
      lines_stay = refl;
      draws_left = there;
      over_stays = refl;
    };
  }
  chances_do (g ∷ gs) meets s w draws there fair stands =
      by (verb_of g.vocab == 0) (chances_do gs meets.1) where
        by : (auto : Bool) → ActsAll gs
            → let r = auto_group auto game g s draws (automatic game gs) in
            StepActs r.value.halt game.db p d (statements (if auto
            then chance (noun_of g.vocab) g.head ∷ chances gs else chances gs)) scope w
            r.value.state
            r.value.draws r.events (tries_steps game.db (g ∷ gs))
        by true more = drawn g gs s w stands meets.0 more draws there fair
        by false more = step_within (omega arith) (more s w draws there fair stands)

-- ---- the whole step

-- no noun was typed
abbrev without_noun : Stage → Stage
without_noun w = with_global (codes "nb") (pos 0) w

-- a stage that stands for a state stands for it with no noun typed, where `nb` is 0
no_noun : {db : Database} {s : State} {noun : List ℕ} {w : Stage} → StandsFor db s noun w
    → StandsFor db s [] (without_noun w)
no_noun h = let working = h.ready.working in record {
  ready = record {
    shows = h.ready.shows;
    fits = h.ready.fits;
    tables = h.ready.tables;
    working = record {
      over_there = working.over_there;
      vnum_there = working.vnum_there;
      nnum_there = working.nnum_there;
      wa_there = working.wa_there;
      na_there = working.na_there;
      wb_there = working.wb_there;
      nb_there = refl;
      buffer = working.buffer;
      buffer_is = working.buffer_is;
      buffer_long = working.buffer_long;
    };
  };
  has_noun = record {
    printable = tt;
    at = h.has_noun.at;
    at_is = h.has_noun.at_is;
    size_is = refl;
    stands = record {
      all = h.has_noun.stands.all;
      all_are = h.has_noun.stands.all_are;
      stand = refl;
    };
  };
}

module _ (db : Database) (p : Program) (has : Has p (automatic_routine (groups db))) (d : ℕ)
    (w : Stage) (there : is_some (w.globals (codes "nb")) ≡ true) where
  abbrev scope : Scope
  scope = record { directive = has.at; locals = [] }

  -- `automatic` halts as its chances do, whether they come through, wait for a draw or end the game
  halts : (halt : Halt) (t : Traced Step AutoOutcome)
      → StepActsBy halt db p d (statements (chances (groups db))) scope (without_noun w)
      t.value.state
      t.value.draws t.events (tries_steps db (groups db))
      → AutomaticHalts halt p (suc d) (codes "automatic") w db t (search_steps db)
  halts Through t r = record {
    value = pos 1;
    after = r.after;
    does = does_within (omega (arith, enough_steps db)) (routine has
        (next (assign (set_variable number there)) r.runs) at_end);
    leaves = record {
      noun = [];
      stands = r.stands;
      past_is = r.past_is;
      lines_stay = r.lines_stay;
      draws_left = r.draws_left;
      over_stays = r.over_stays;
    };
  }
  halts (Waits head) t r = record {
    after = r.after;
    stops = stops_within (omega (arith, enough_steps db)) (routine_stops has
        (later (λ e s' run. next (assign (set_variable number there)) run) r.stops));
    shows = r.shows;
    past_is = r.past_is;
    over_stays = r.over_stays;
  }
  halts (AtEnd ending) t r = record {
    after = r.after;
    stops = stops_within (omega (arith, enough_steps db)) (routine_stops has
        (later (λ e s' run. next (assign (set_variable number there)) run) r.stops));
    shows = r.shows;
    past_is = r.past_is;
    over_is = r.over_is;
  }

-- where a program serves the automatic step, it meets its specification if each group does
pub automatic_meets_spec : AutomaticMeetsSpec
automatic_meets_spec style width db p serves meets s noun w d room fair stands =
    let t = automatic (in_style style db) (groups db) s w.draws in
    one_less (λ d. AutomaticHalts t.value.halt p d (codes "automatic") w db t (search_steps db)) 129
    d
    room (λ k few. halts db p held k w stands.ready.working.nb_there t.value.halt t
    (chances_do (in_style style db) p k (omega (arith, few)) (scope db p held k w
    stands.ready.working.nb_there) (groups db) meets s (without_noun w) w.draws refl fair.fair
    (no_noun stands)).acts) where
      held : Has p (automatic_routine (groups db))
      held = has p serves.holds.0 (serves.notes_lines (codes "automatic") serves.holds.0.0)

-- All rounds, one after the other.
use Rattle.std.proofs.Common.{◌≡◌, ◌∙◌, arith, ℕ, zero, suc, ◌+◌, ◌-◌, ◌*◌, ◌<◌, ◌≤◌, ℤ, pos, List, [], ◌∷◌, ◌++◌, length, codes, Some, refl, sym, ap, subst, mul-le-mul_left}
use Rattle.std.specs.List.{AllByRecursion}
use Rattle.std.proofs.Math.Nat.{mul_assoc}
use Rattle.adv_io.specs.Steps.{Step, Traced, after}
use Rattle.adv_io.specs.TypedLine.{IsTyped}
use Rattle.adv_draws.specs.Run.{AllDraws}
use Rattle.inform_codes.specs.Grown.{body_of}
use Rattle.inform_tree.specs.Programs.{RoutineTree}
use Rattle.inform_tree.specs.declared.conditions.Relation.TheVariants.{Eq}
use Rattle.inform_tree.specs.Values as v
use Rattle.inform_tree.specs.Conditions as c
use Rattle.inform_tree.specs.Statements as t
use Rattle.inform_tree.specs.Statements.{statements}
use Rattle.inform_meaning.specs.Worlds.{Program, Scope}
use Rattle.inform_meaning.specs.Frames.{Loop, Quits, NeedsLine, NeedsDraw}
use Rattle.inform_meaning.specs.Statements.{while_loop}
use Rattle.inform_meaning.specs.Runs.{CALL_LIMIT, Stop, Halted, Lacking}
use Rattle.inform_meaning.specs.Programs as m
use Rattle.inform_meaning.specs.Programs.{main_scope}
use Rattle.inform_logic.specs.Stages.{Stage}
use Rattle.inform_logic.specs.Leading.{Part, TheTurns, TheBlock, Does}
use Rattle.inform_logic.specs.Holding.{routine_at, Has}
use Rattle.inform_logic.specs.Stopping.{Stops, CallStops, in_block, in_call_alone, in_body, in_while}
use Rattle.inform_logic.proofs.Words.{small_number}
use Rattle.inform_logic.proofs.Values.{within, valued, number, argument, called}
use Rattle.inform_logic.proofs.Conditions.{compare}
use Rattle.inform_logic.proofs.Printing.{happened_then}
use Rattle.inform_logic.proofs.Changes.{no_change}
use Rattle.inform_logic.proofs.Statements.{end, next, call_alone}
use Rattle.inform_logic.proofs.Loops.{turn, turn_goes_on, turn_ends}
use Rattle.inform_logic.proofs.Stops.{later, handed_up, step_stops, called_stops}
use Rattle.scott_types.specs.declared.states.State.{State}
use Rattle.scott_types.specs.declared.endings.Position.{Position}
use Rattle.scott_types.specs.declared.endings.Position.TheVariants.{Fresh, Draw, Line, Over}
use Rattle.scott_types.specs.Database.{Database}
use Rattle.scott_types.specs.Style.{Game}
use Rattle.scott_rules.specs.Play.{PlayEnd, go}
use Rattle.scott_rules.specs.Laws.{WordNamesLeastMatch, PlaySpends, PlayStops}
use Rattle.trans_specs.specs.Views.{Shows}
use Rattle.trans_specs.specs.Standing.{StandsFor}
use Rattle.trans_specs.specs.Steps.{highest, share, turn_share, round_steps, enough}
use Rattle.trans_specs.specs.Rounds.{round, next_round}
use Rattle.trans_specs.specs.Same.{EndsAlike}
use Rattle.trans_specs.specs.TurnSpecs.{FairStage, RoundSpec, RoundOutcome, RoundDone, MainPlays}
use Rattle.trans_specs.specs.Meeting.{TurnSpecs}
use Rattle.trans_specs.specs.Laws.{PlaysAreRounds}
use Rattle.trans_turn.specs.declared.names.TheConstants.{MAIN}
use Rattle.trans_turn.specs.declared.codes.TheConstants.{PLAYING}
use Rattle.trans_turn.specs.RoundSpecs.{round_calls, IsOpening, RoundsMeetSpecs}
use Rattle.trans_turn.specs.Routines.{first_asked}
use Rattle.trans_turn.proofs.Holding.{written, HasRound, has_round}
use Rattle.trans_turn.proofs.Left.{LinesLeft, lines_left, line_is_taken, draws_left}
use Rattle.trans_turn.proofs.RoundSpecs.{whole_round, rest_of_round_spec}

-- ---- steps

-- of all rounds that take so many lines
abbrev all_steps : Database → ℕ → ℕ
all_steps db lines = lines * (200 * share db) + (lines + 1) * (500 * turn_share db + 10)

-- a round, and all that follow it; x is what a line takes, and r a round without its lines
round_and_more : (x r spent left n : ℕ) → 1 ≤ spent
    → n ≤ spent * x + r + (left * x + (left + 1) * r) → n ≤ (spent + left) * x +
    (spent + left + 1) * r
round_and_more x r zero left n some few = absurd (omega (arith, some))
round_and_more x r (suc spent) left n some few = omega (arith, few)

one_round : (x r spent left n : ℕ) → n ≤ spent * x + r
    → n ≤ (spent + left) * x + (spent + left + 1) * r
one_round x r spent left n few = omega (arith, few)

-- t is the share of a turn
for_lines : (s t lines : ℕ) → 200 ≤ s → 4 * s ≤ t
    → lines * (200 * s) + (lines + 1) * (500 * t + 10) + 10 ≤ (lines + 1) * (1000 * t)
for_lines s t lines some few = omega (
  arith,
  some,
  few,
  mul-le-mul_left lines few,
  mul-le-mul_left lines some,
)

at_least_four : (a i s : ℕ) → 4 * s ≤ (a + 2) * (i + 2) * s
at_least_four a i s = omega arith

regrouped : (l a i s : ℕ) → l * (1000 * (a * i * s)) ≡ l * 1000 * a * i * s
regrouped l a i s = sym (mul_assoc (l * 1000 * a) i s ∙ mul_assoc (l * 1000) a (i * s)
    ∙ ap (λ n. l * 1000 * n) (sym (mul_assoc a i s)) ∙ mul_assoc l 1000 (a * i * s))

is_enough : (db : Database) (lines : ℕ) → all_steps db lines + 10 ≤ enough db lines
is_enough db lines = subst (λ n. all_steps db lines + 10 ≤ n)
    (regrouped (lines + 1) (highest db.actions + 2) (highest db.items + 2) (share db))
    (for_lines (share db) (turn_share db) lines (omega arith)
    (at_least_four (highest db.actions) (highest db.items) (share db)))

-- ---- a part of a play

-- it stops as the play does
pub record PartPlays (p : Program) (part : Part) (scope : Scope) (w : Stage)
    (t : Traced Step PlayEnd) (most : ℕ) : Type 0 where
  pub stop : Stop
  pub last : Stage
  pub stops : Stops p CALL_LIMIT part scope w stop last most
  pub shows : Shows t.value.state last
  pub past_is : last.past ≡ w.past ++ t.events
  pub ends : EndsAlike t.value.position stop (last.globals (codes "over"))

-- ---- a round, and then the others

module _ (game : Game) (p : Program) (part : Part) (scope : Scope) (w : Stage) (values : List ℤ)
    (over : w.globals (codes "over") ≡ Some (pos 0)) (t : Traced Step PlayEnd) (n m : ℕ)
    (stopped : (stop : Stop) (w' : Stage) → CallStops p CALL_LIMIT
    (codes "round") values w stop w' n
    → Stops p CALL_LIMIT part scope w stop w' m)
    (done : t.value.position ≡ Fresh → RoundDone p CALL_LIMIT (codes "round") values w game.db t n
    → PartPlays p part scope w
    (after t.events (go game Fresh t.value.state t.value.lines t.value.draws)) m) where
  -- however the round ends, the part plays it, and the rounds after it where others come
  pub by_round : (position : Position) → t.value.position ≡ position
      → RoundOutcome position p CALL_LIMIT (codes "round") values w game.db t n
      → PartPlays p part scope w (next_round position game t) m
  by_round Fresh is x = done is x
  by_round (Draw head) is x = record {
    stop = Lacking NeedsDraw;
    last = x.after;
    stops = stopped (Lacking NeedsDraw) x.after x.stops;
    shows = x.shows;
    past_is = x.past_is;
    ends = subst (λ q. EndsAlike q (Lacking NeedsDraw) (x.after.globals (codes "over"))) (sym is)
        (refl, x.over_stays ∙ over);
  }
  by_round Line is x = record {
    stop = Lacking NeedsLine;
    last = x.after;
    stops = stopped (Lacking NeedsLine) x.after x.stops;
    shows = x.shows;
    past_is = x.past_is;
    ends = subst (λ q. EndsAlike q (Lacking NeedsLine) (x.after.globals (codes "over"))) (sym is)
        (refl, x.over_stays ∙ over);
  }
  by_round (Over ending) is x = record {
    stop = Halted Quits;
    last = x.after;
    stops = stopped (Halted Quits) x.after x.stops;
    shows = x.shows;
    past_is = x.past_is;
    ends = subst (λ q. EndsAlike q (Halted Quits) (x.after.globals (codes "over"))) (sym is)
        (refl, x.over_is);
  }

-- ---- `while (0 == 0) round(0);`

abbrev always : c.Condition
always = c.Compare Eq (v.Number 0) (v.Number 0)

abbrev whole_call : t.Statement
whole_call = t.Call (codes "round") (v.MoreArguments (v.Number 0) v.NoArguments)

abbrev play_loop : Loop
play_loop = while_loop always (statements (whole_call ∷ []))

module _ (spends : PlaySpends) (stops : PlayStops) (rounds : PlaysAreRounds) (game : Game)
    (p : Program) (whole : RoundSpec game p (codes "round") round_calls.whole Fresh) (scope : Scope)
  where
    abbrev Plays : Part → Stage → State → ℕ → Type 0
    Plays part w s most = PartPlays p part scope w (go game Fresh s w.lines w.draws) most

    -- the rounds from here on
    abbrev Loops : Stage → State → Type 0
    Loops w s = Plays (TheTurns play_loop) w s (all_steps game.db (length w.lines))

    abbrev LoopsFrom : ℕ → Type 0
    LoopsFrom n = (s : State) (noun : List ℕ) (w : Stage) → length w.lines ≤ n → FairStage w
        → StandsFor game.db s noun w → w.globals (codes "over") ≡ Some (pos 0) → Loops w s

    -- ---- after a round from a position on that is done

    module _ (position : Position) (s : State) (w : Stage) (values : List ℤ) (fair : FairStage w)
        (over : w.globals (codes "over") ≡ Some (pos 0)) where
      abbrev one : Traced Step PlayEnd
      one = round game position s w.lines w.draws

      abbrev spent : ℕ
      spent = length w.lines - length one.value.lines

      abbrev Done : Type 0
      Done = RoundDone p CALL_LIMIT (codes "round") values w game.db one (round_steps game.db spent)

      left : LinesLeft w.lines one.value.lines
      left = lines_left game w.lines position s w.draws

      fair_then : (x : Done) → FairStage x.after
      fair_then x = record {
        typed = subst (AllByRecursion IsTyped) (sym x.leaves.lines_left) (left.typed fair.typed);
        fair = subst AllDraws (sym x.leaves.draws_left)
            (draws_left game spends w.lines position s w.draws fair.fair);
      }

      -- the others follow
      module _ (n : ℕ) (few : length one.value.lines ≤ n) (more : LoopsFrom n) (x : Done) where
        others : PartPlays p (TheTurns play_loop) scope x.after
            (go game Fresh one.value.state one.value.lines one.value.draws)
            (all_steps game.db (length one.value.lines))
        others = subst (λ ls. PartPlays p (TheTurns play_loop) scope x.after
            (go game Fresh one.value.state ls one.value.draws) (all_steps game.db (length ls)))
            x.leaves.lines_left
            (subst (λ ds. PartPlays p (TheTurns play_loop) scope x.after
            (go game Fresh one.value.state x.after.lines ds)
            (all_steps game.db (length x.after.lines)))
            x.leaves.draws_left (more one.value.state x.leaves.noun x.after
            (subst (λ ls. length ls ≤ n) (sym x.leaves.lines_left) few) (fair_then x)
            x.leaves.stands (x.leaves.over_stays ∙ over)))

        pub followed : (part : Part) (m : ℕ)
            → ((stop : Stop) (w' : Stage)
            → Stops p CALL_LIMIT (TheTurns play_loop) scope x.after stop w'
            (all_steps game.db (length one.value.lines))
            → Stops p CALL_LIMIT part scope w stop w' m)
            → PartPlays p part scope w
            (after one.events (go game Fresh one.value.state one.value.lines one.value.draws)) m
        followed part m rule = record {
          stop = others.stop;
          last = others.last;
          stops = rule others.stop others.last others.stops;
          shows = others.shows;
          past_is = happened_then w.past one.events
              (go game Fresh one.value.state one.value.lines one.value.draws).events
              x.leaves.past_is
              others.past_is;
          ends = others.ends;
        }

      -- what a round with these steps and all others take
      within_all : (n : ℕ) → n ≤ round_steps game.db spent + 10 → n ≤ all_steps game.db
          (length w.lines)
      within_all n few = let
          all : length w.lines ≡ spent + length one.value.lines = omega (arith, left.few) in
          subst (λ k. n ≤ all_steps game.db k) (sym all)
          (one_round (200 * share game.db) (500 * turn_share game.db + 10) spent
          (length one.value.lines) n (omega (arith, few)))

      within_more : (n : ℕ) → one.value.position ≡ Fresh
          → n ≤ round_steps game.db spent + all_steps game.db (length one.value.lines) + 10
          → n ≤ all_steps game.db (length w.lines)
      within_more n is few = let
          fewer : length one.value.lines < length w.lines =
          line_is_taken game stops w.lines position s w.draws is in
          let all : length w.lines ≡ spent + length one.value.lines = omega (arith, left.few) in
          subst (λ k. n ≤ all_steps game.db k) (sym all)
          (round_and_more (200 * share game.db) (500 * turn_share game.db + 10) spent
          (length one.value.lines) n (omega (arith, fewer)) (omega (arith, few)))

    -- ---- the loop

    body_stops : {w w' : Stage} {stop : Stop} {n : ℕ}
        → CallStops p CALL_LIMIT (codes "round") round_calls.whole w stop w' n
        → Stops p CALL_LIMIT (TheTurns play_loop) scope w stop w' (n + 3)
    body_stops x = later (λ e s'. within (omega arith)) (later
        (λ e s'. turn (compare number number refl))
        (handed_up (in_body refl) (handed_up in_block (step_stops (handed_up in_call_alone
        (later (λ e s'. argument number) (called_stops x)))))))

    body_then : {w w1 w' : Stage} {v : ℤ} {stop : Stop} {n m : ℕ}
        → Does p CALL_LIMIT (codes "round") round_calls.whole w v w1 n
        → Stops p CALL_LIMIT (TheTurns play_loop) scope w1 stop w' m
        → Stops p CALL_LIMIT (TheTurns play_loop) scope w stop w' (n + m + 5)
    body_then does x = later (λ e s'. within (omega arith))
        (later (λ e s'. turn (compare number number refl))
        (later (λ e s'. turn_goes_on refl (λ j. tt)
        (next (call_alone (argument number (called does))) end))
        (later (λ e s'. turn_ends no_change) x)))

    module _ (s : State) (noun : List ℕ) (w : Stage) (fair : FairStage w)
        (stands : StandsFor game.db s noun w) (over : w.globals (codes "over") ≡ Some (pos 0)) where
      abbrev this_round : Traced Step PlayEnd
      this_round = round game Fresh s w.lines w.draws

      abbrev ThisDone : Type 0
      ThisDone = RoundDone p CALL_LIMIT (codes "round") round_calls.whole w game.db this_round
          (round_steps game.db (length w.lines - length this_round.value.lines))

      abbrev ThisPlays : Traced Step PlayEnd → Type 0
      ThisPlays t = PartPlays p (TheTurns play_loop) scope w t (all_steps game.db (length w.lines))

      abbrev the_others : Traced Step PlayEnd
      the_others = after this_round.events
          (go game Fresh this_round.value.state this_round.value.lines this_round.value.draws)

      one_turn : (this_round.value.position ≡ Fresh → ThisDone → ThisPlays the_others) → Loops w s
      one_turn done = subst ThisPlays (sym (rounds game Fresh s w.lines w.draws))
          (by_round game p (TheTurns play_loop) scope w round_calls.whole over this_round
          (round_steps game.db (length w.lines - length this_round.value.lines))
          (all_steps game.db (length w.lines))
          (λ stop w' x. later (λ e s'. within (within_all Fresh s w round_calls.whole fair over _
          (omega arith))) (body_stops x))
          done this_round.value.position refl (whole s noun w CALL_LIMIT (omega arith) fair stands))

      no_turn : length w.lines ≤ 0 → Loops w s
      no_turn few = one_turn (λ is x. absurd (omega (
        arith,
        few,
        line_is_taken game stops w.lines Fresh s w.draws is,
      )))

      more_turns : (n : ℕ) → length w.lines ≤ suc n → LoopsFrom n → Loops w s
      more_turns n few more = one_turn (λ is x. followed Fresh s w round_calls.whole fair over n
          (omega (arith, few, line_is_taken game stops w.lines Fresh s w.draws is)) more x
          (TheTurns play_loop) (all_steps game.db (length w.lines))
          (λ stop w' y. later (λ e s'. within (within_more Fresh s w round_calls.whole fair over _
          is
          (omega arith))) (body_then x.does y)))

    loops : (n : ℕ) → LoopsFrom n
    loops zero s noun w few fair stands over = no_turn s noun w fair stands over few
    loops (suc n) s noun w few fair stands over =
        more_turns s noun w fair stands over n few (loops n)

-- ---- `[ main; round(..); while (0 == 0) round(0); ]`

-- the routine, where its first round is told this number
abbrev main_routine : ℕ → RoutineTree
main_routine asked = written asked MAIN [] PLAYING

module _ (spends : PlaySpends) (stops : PlayStops) (rounds : PlaysAreRounds) (game : Game)
    (p : Program) (whole : RoundSpec game p (codes "round") round_calls.whole Fresh) (asked : ℕ)
    (small : asked < 32768) (has : Has p (main_routine asked)) (position : Position)
    (first : RoundSpec game p (codes "round") (pos asked ∷ []) position) where
  abbrev scope : Scope
  scope = main_scope (Some (routine_at has.at (main_routine asked)))

  abbrev body : Part
  body = TheBlock (main_routine asked).body

  first_stops : {w w' : Stage} {stop : Stop} {n : ℕ}
      → CallStops p CALL_LIMIT (codes "round") (pos asked ∷ []) w stop w' n
      → Stops p CALL_LIMIT body scope w stop w' (n + 3)
  unfolding body_of
  first_stops x = later (λ e s'. within (omega arith)) (handed_up in_block (step_stops
      (handed_up in_call_alone (later (λ e s'. argument (valued
      (small_number p.width small) number))
      (called_stops x)))))

  first_then : {w w1 w' : Stage} {v : ℤ} {stop : Stop} {n m : ℕ}
      → Does p CALL_LIMIT (codes "round") (pos asked ∷ []) w v w1 n
      → Stops p CALL_LIMIT (TheTurns play_loop) scope w1 stop w' m
      → Stops p CALL_LIMIT body scope w stop w' (n + m + 5)
  unfolding body_of
  first_then does x = later (λ e s'. within (omega arith))
      (later (λ e s'. next (call_alone (argument (valued (small_number p.width small) number)
      (called does)))) (handed_up in_block (step_stops (handed_up in_while x))))

  module _ (s : State) (noun : List ℕ) (w : Stage) (fair : FairStage w)
      (stands : StandsFor game.db s noun w) (over : w.globals (codes "over") ≡ Some (pos 0)) where
    abbrev first_round : Traced Step PlayEnd
    first_round = round game position s w.lines w.draws

    abbrev play : Traced Step PlayEnd
    play = go game position s w.lines w.draws

    plays : PartPlays p body scope w play (all_steps game.db (length w.lines))
    plays = subst (λ t. PartPlays p body scope w t (all_steps game.db (length w.lines)))
        (sym (rounds game position s w.lines w.draws))
        (by_round game p body scope w (pos asked ∷ []) over first_round
        (round_steps game.db (length w.lines - length first_round.value.lines))
        (all_steps game.db (length w.lines))
        (λ stop w' x. later (λ e s'. within (within_all spends stops rounds game p whole scope
        position s w (pos asked ∷ []) fair over _ (omega arith))) (first_stops x))
        (λ is x. followed spends stops rounds game p whole scope position s w (pos asked ∷ []) fair
        over (length w.lines) (omega (
          arith,
          line_is_taken game stops w.lines position s w.draws is,
        ))
        (loops spends stops rounds game p whole scope (length w.lines)) x body
        (all_steps game.db (length w.lines))
        (λ stop w' y. later (λ e s'. within (within_more spends stops rounds game p whole scope
        position s w (pos asked ∷ []) fair over _ is (omega arith))) (first_then x.does y)))
        first_round.value.position refl (first s noun w CALL_LIMIT (omega arith) fair stands))

    pub main_plays : MainPlays game p w play
    main_plays = record {
      stop = plays.stop;
      after = plays.last;
      stops = subst (λ o. Stops p CALL_LIMIT (TheBlock (m.body_of o)) (main_scope o) w plays.stop
          plays.last (enough game.db (length w.lines))) (sym has.there)
          (later (λ e s'. within (omega (arith, is_enough game.db (length w.lines)))) plays.stops);
      shows = plays.shows;
      past_is = plays.past_is;
      ends = plays.ends;
    }

-- where the routines of a round are there, and meet their specifications
pub rounds_meet_specs : WordNamesLeastMatch → PlaySpends → PlayStops → PlaysAreRounds → RoundsMeetSpecs
rounds_meet_specs words spends stops rounds width game begin p opening translates serves parts = by begin
    opening (has_round begin serves) where
      whole : (asked : ℕ) → HasRound p asked
          → RoundSpec game p (codes "round") round_calls.whole Fresh
      whole asked has = whole_round words game p asked has parts

      rest : (asked : ℕ) → HasRound p asked
          → RoundSpec game p (codes "round") round_calls.rest Line
      rest asked has = rest_of_round_spec words game p asked has parts

      by : (begin : Position) → IsOpening begin → HasRound p (first_asked begin)
          → TurnSpecs game p round_calls begin
      by Fresh opening has = record {
        whole_round = whole 0 has;
        rest_of_round = rest 0 has;
        all_rounds = λ s noun w fair stands over. main_plays spends stops rounds game p
            (whole 0 has) 0 (omega arith) has.main Fresh (whole 0 has) s noun w fair stands over;
      }
      by Line opening has = record {
        whole_round = whole 1 has;
        rest_of_round = rest 1 has;
        all_rounds = λ s noun w fair stands over. main_plays spends stops rounds game p
            (whole 1 has) 1 (omega arith) has.main Line (rest 1 has) s noun w fair stands over;
      }
      by (Draw head) opening has = absurd opening
      by (Over ending) opening has = absurd opening

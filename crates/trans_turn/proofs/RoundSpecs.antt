-- The routine of a round.
use Rattle.std.proofs.Common.{◌≡◌, arith, ℕ, suc, ◌+◌, ◌-◌, ◌*◌, ◌≤◌, ℤ, pos, List, [], ◌∷◌, length, codes, refl, sym, ap, subst, append-nil}
use Rattle.adv_io.specs.Steps.{Step, Traced, after, traced}
use Rattle.inform_codes.specs.Grown.{body_of}
use Rattle.inform_meaning.specs.Worlds.{Program, Scope, scope_of}
use Rattle.inform_logic.specs.Stages.{Stage}
use Rattle.inform_logic.specs.Leading.{TheBlock}
use Rattle.inform_logic.specs.Holding.{routine_at}
use Rattle.inform_logic.specs.Stopping.{in_block, in_call_alone}
use Rattle.inform_logic.proofs.Values.{within, number, local, called}
use Rattle.inform_logic.proofs.Conditions.{compare}
use Rattle.inform_logic.proofs.Statements.{end, next, call_alone, if_true, if_false}
use Rattle.inform_logic.proofs.Stops.{later, handed_up, step_stops, called_stops}
use Rattle.scott_types.specs.declared.states.State.{State}
use Rattle.scott_types.specs.declared.endings.Position.{Position}
use Rattle.scott_types.specs.declared.endings.Position.TheVariants.{Fresh, Draw, Line, Over}
use Rattle.scott_types.specs.Database.{Database}
use Rattle.scott_types.specs.Style.{Game}
use Rattle.scott_rules.specs.Rounds.{RoundEnd, advance}
use Rattle.scott_rules.specs.Play.{PlayEnd, stopped, with_line}
use Rattle.scott_rules.specs.Laws.{WordNamesLeastMatch}
use Rattle.trans_specs.specs.Standing.{StandsFor}
use Rattle.trans_specs.specs.Steps.{highest, share, round_steps}
use Rattle.trans_specs.specs.Rounds.{round_goes_on, round_done, round}
use Rattle.trans_specs.specs.TurnSpecs.{FairStage, RoundSpec, RoundEnds}
use Rattle.trans_turn.specs.declared.names.TheConstants.{ROUND, ASKED}
use Rattle.trans_turn.specs.declared.codes.TheConstants.{ROUNDING}
use Rattle.trans_turn.specs.RoundSpecs.{RoundParts, round_calls}
use Rattle.trans_specs.proofs.Room.{one_less}
use Rattle.trans_turn.proofs.Holding.{written, HasRound}
use Rattle.trans_turn.proofs.Parts.{PartOutcome, then_part, by_body}
use Rattle.trans_turn.proofs.Advanced.{advance_steps, AdvanceOutcome, advances}
use Rattle.trans_turn.proofs.RoundRuns.{rest_block, rest_steps, lines_spent, rest_of_round}

-- ---- steps

-- with at least two of each, and a share of at least 200
room_for : (a i s : ℕ) → 200 ≤ s
    → (a + 2) * (110 * s) + (45 * s + 120) ≤ 200 * ((a + 2) * (i + 2) * s)
room_for a i s some = omega (arith, some)

whole_fits : (db : Database) (more : ℕ)
    → advance_steps db + (rest_steps db more + 20) ≤ round_steps db more
whole_fits db more = omega (
  arith,
  room_for (highest db.actions) (highest db.items) (share db) (omega arith),
)

-- ---- a round by what is done up to the prompt

-- what follows after that
abbrev round_after : Game → List (List ℕ) → Traced Step RoundEnd → Traced Step PlayEnd
round_after game [] t = stopped [] t
round_after game (line ∷ lines) t = with_line t.value.position game line lines t (λ p r ds.
    round_goes_on p (round_done p r lines ds) (round game p r lines ds))

round_is : (game : Game) (position : Position) (s : State) (lines : List (List ℕ)) (ds : List ℕ)
    → round game position s lines ds ≡ round_after game lines (advance game position s ds)
unfolding round
round_is game position s [] ds = refl
round_is game position s (line ∷ lines) ds = refl

abbrev ended : Position → State → List ℕ → List Step → Traced Step RoundEnd
ended position r ds es = traced es (record { position = position; state = r; draws = ds })

-- after the prompt the rest of the round follows
prompted_is : (game : Game) (lines : List (List ℕ)) (r : State) (ds : List ℕ) (es : List Step)
    → after es (round game Line r lines ds) ≡ round_after game lines (ended Line r ds es)
unfolding round
prompted_is game [] r ds es = ap (λ fs. stopped [] (ended Line r ds fs)) (append-nil es)
prompted_is game (line ∷ lines) r ds es = refl

-- and where there is no prompt, nothing does
drawn_is : (game : Game) (lines : List (List ℕ)) (head : ℕ) (r : State) (ds : List ℕ)
    (es : List Step) → stopped lines (ended (Draw head) r ds es)
    ≡ round_after game lines (ended (Draw head) r ds es)
drawn_is game [] head r ds es = refl
drawn_is game (line ∷ lines) head r ds es = refl

over_is : (game : Game) (lines : List (List ℕ)) (ending : ℕ) (r : State) (ds : List ℕ)
    (es : List Step) → stopped lines (ended (Over ending) r ds es)
    ≡ round_after game lines (ended (Over ending) r ds es)
over_is game [] ending r ds es = refl
over_is game (line ∷ lines) ending r ds es = refl

-- ---- the routine

module _ (law : WordNamesLeastMatch) (game : Game) (p : Program) (asked : ℕ)
    (has : HasRound p asked) (parts : RoundParts game p) (k : ℕ) (room : 130 ≤ k) where
  -- the scope of the routine, by what it is told
  abbrev told : ℤ → Scope
  told z = scope_of (routine_at has.round.at (written asked ROUND (ASKED ∷ []) ROUNDING)) (z ∷ [])

  abbrev Body : ℤ → Stage → Traced Step PlayEnd → Type 0
  Body z w t = PartOutcome t.value.position p (suc k)
      (TheBlock (written asked ROUND (ASKED ∷ []) ROUNDING).body) (told z) w game.db t
      (round_steps game.db (lines_spent w.lines t))

  module _ (s : State) (noun : List ℕ) (w : Stage) (fair : FairStage w)
      (stands : StandsFor game.db s noun w) where
    -- after the prompt
    rest : Body (pos 1) w (round game Line s w.lines w.draws)
    unfolding body_of
    rest = let t : Traced Step PlayEnd = round game Line s w.lines w.draws in
        then_part [] (sym (append-nil w.past)) refl
        (λ w' x. within (omega (arith, whole_fits game.db (lines_spent w.lines t)))
        (next (if_false (compare (local refl) number refl) end) x))
        (λ stop w' x. later (λ e s'. within (omega (
          arith,
          whole_fits game.db (lines_spent w.lines t),
        )))
        (later (λ e s'. next (if_false (compare (local refl) number refl) end)) x))
        t.value.position game.db t
        (rest_of_round law game p asked has parts k room (told (pos 1)) w.lines s w fair.typed
        stands.ready refl)

    -- a whole round, by where it came to
    whole_by : (position : Position) (r : State) (ds : List ℕ) (es : List Step)
        → AdvanceOutcome position p (suc k) w game.db (ended position r ds es)
        → Body (pos 0) w (round_after game w.lines (ended position r ds es))
    unfolding body_of
    whole_by Fresh r ds es a = absurd a
    whole_by (Draw head) r ds es a =
        subst (Body (pos 0) w) (drawn_is game w.lines head r ds es) (record {
          last = a.after;
          stops = later (λ e s'. within (omega (
            arith,
            whole_fits game.db (length w.lines - length w.lines),
          ))) (handed_up in_block
              (later (λ e s'. if_true (compare (local refl) number refl)) (handed_up in_block
              (step_stops (handed_up in_call_alone (called_stops a.stops))))));
          shows = a.shows;
          past_is = a.past_is;
          over_stays = a.over_stays;
        })
    whole_by Line r ds es a = let t : Traced Step PlayEnd = round game Line r w.lines ds in
        let inner : PartOutcome t.value.position p (suc k) (TheBlock rest_block) (told (pos 0))
        a.last game.db t (rest_steps game.db (lines_spent w.lines t)) =
        subst (λ fs. let t = round game Line r w.lines fs in
        PartOutcome t.value.position p (suc k) (TheBlock rest_block) (told (pos 0)) a.last game.db t
        (rest_steps game.db (lines_spent w.lines t))) a.draws_left
        (rest_of_round law game p asked has parts k room (told (pos 0)) w.lines r a.last fair.typed
        a.stands.ready a.lines_stay) in
        subst (Body (pos 0) w) (prompted_is game w.lines r ds es)
        (then_part es a.past_is a.over_stays
        (λ w' x. within (omega (arith, whole_fits game.db (lines_spent w.lines t)))
        (next (if_true (compare (local refl) number refl)
        (next (call_alone (called a.does)) end)) x))
        (λ stop w' x. later (λ e s'. within (omega (
          arith,
          whole_fits game.db (lines_spent w.lines t),
        )))
        (later (λ e s'. next (if_true (compare (local refl) number refl)
        (next (call_alone (called a.does)) end))) x))
        t.value.position game.db t inner)
    whole_by (Over ending) r ds es a =
        subst (Body (pos 0) w) (over_is game w.lines ending r ds es) (record {
          last = a.after;
          stops = later (λ e s'. within (omega (
            arith,
            whole_fits game.db (length w.lines - length w.lines),
          ))) (handed_up in_block
              (later (λ e s'. if_true (compare (local refl) number refl)) (handed_up in_block
              (step_stops (handed_up in_call_alone (called_stops a.stops))))));
          shows = a.shows;
          past_is = a.past_is;
          over_is = a.over_is;
        })

    whole : Body (pos 0) w (round game Fresh s w.lines w.draws)
    whole = let t : Traced Step RoundEnd = advance game Fresh s w.draws in
        subst (Body (pos 0) w) (sym (round_is game Fresh s w.lines w.draws))
        (whole_by t.value.position t.value.state t.value.draws t.events
        (advances game p asked has parts k room s noun w stands fair))

module _ (law : WordNamesLeastMatch) (game : Game) (p : Program) (asked : ℕ)
    (has : HasRound p asked) (parts : RoundParts game p) where
  pub whole_round : RoundSpec game p (codes "round") round_calls.whole Fresh
  whole_round s noun w d room fair stands =
      let t : Traced Step PlayEnd = round game Fresh s w.lines w.draws in
      one_less (λ d. RoundEnds game p d (codes "round") round_calls.whole w t) 139 d room
      (λ d few. one_less (λ d. RoundEnds game p (suc d) (codes "round") round_calls.whole w t) 138 d
      few (λ k few. by_body (suc k) has.round round_calls.whole w
      (round_steps game.db (lines_spent w.lines t)) t.value.position game.db t
      (whole law game p asked has parts k (omega (arith, few)) s noun w fair stands)))

  pub rest_of_round_spec : RoundSpec game p (codes "round") round_calls.rest Line
  rest_of_round_spec s noun w d room fair stands =
      let t : Traced Step PlayEnd = round game Line s w.lines w.draws in
      one_less (λ d. RoundEnds game p d (codes "round") round_calls.rest w t) 139 d room
      (λ d few. one_less (λ d. RoundEnds game p (suc d) (codes "round") round_calls.rest w t) 138 d
      few (λ k few. by_body (suc k) has.round round_calls.rest w
      (round_steps game.db (lines_spent w.lines t)) t.value.position game.db t
      (rest law game p asked has parts k (omega (arith, few)) s noun w fair stands)))

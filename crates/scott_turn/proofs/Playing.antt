-- Rounds on a console whose lines are known, and how they make a play.
use Rattle.std.proofs.Common.{◌≡◌, ◌∙◌, ℕ, Bool, true, false, List, [], ◌∷◌, ◌++◌, Option, Some, None, Result, Ok, Err, IfSome, refl, sym, ap, subst}
use Rattle.std.proofs.lemmas.List.{append-nil}
use Rattle.adv_io.specs.History.{grown, GrewByPrefix}
use Rattle.adv_io.specs.Console.{ConsoleView, Speaks, TakesFrom}
use Rattle.adv_io.specs.declared.events.Event.TheVariants.{Take}
use Rattle.adv_io.specs.declared.faults.ConsoleFault.{ConsoleFault}
use Rattle.adv_io.specs.declared.consoles.Taken.TheVariants.{Got, End}
use Rattle.adv_io.proofs.Sayings.{grown-nil, grown_on, part_on, part_of_more, part_none}
use Rattle.scott_types.specs.declared.states.State.{State}
use Rattle.scott_types.specs.declared.endings.Position.{Position}
use Rattle.scott_types.specs.declared.endings.Position.TheVariants.{Fresh, Draw, Line, Over}
use Rattle.scott_types.specs.Style.{Game}
use Rattle.adv_io.specs.Steps.{Step, Traced, after, shown_of, traced}
use Rattle.scott_rules.specs.Commands.{heard}
use Rattle.scott_rules.specs.Rounds.{RoundEnd, Answered, advance, by_heard, answer}
use Rattle.scott_rules.specs.Play.{PlayEnd, stopped, with_line, go}
use Rattle.scott_turn.specs.declared.rounds.Round.{Round}
use Rattle.scott_turn.specs.Rounds.{is_prompt, next_answer, AnswersNext, from_there, GoesRound, PlaysOut}
use Rattle.adv_io.proofs.Showing.{shown_of-append}
use Rattle.adv_io.proofs.Along.{after-after}

-- ---- a play, by the position that it reaches before a line is taken

-- at a position other than the prompt it has stopped
pub go-stops : (game : Game) (position : Position) (s : State) (lines : List (List ℕ)) (draws : List ℕ) → is_prompt (advance game position s draws).value.position ≡ false
    → go game position s lines draws ≡ stopped lines (advance game position s draws)
unfolding go
go-stops game position s [] draws stops = refl
go-stops game position s (line ∷ lines) draws stops = by_position (advance game position s draws).value.position stops
  where
    t : Traced Step RoundEnd
    t = advance game position s draws

    by_position : (p : Position) → is_prompt p ≡ false → with_line p game line lines t (λ q r ds. go game q r lines ds) ≡ stopped (line ∷ lines) t
    by_position Fresh is = refl
    by_position (Draw head) is = refl
    by_position Line is = absurd cc
    by_position (Over ending) is = refl

-- without a line it has stopped at the prompt
pub go-ends : (game : Game) (position : Position) (s : State) (draws : List ℕ) → go game position s [] draws ≡ stopped [] (advance game position s draws)
unfolding go
go-ends game position s draws = refl

-- with a line it goes on after the answer
pub go-answers : (game : Game) (position : Position) (s : State) (line : List ℕ) (lines : List (List ℕ)) (draws : List ℕ) → is_prompt (advance game position s draws).value.position ≡ true
    → go game position s (line ∷ lines) draws
    ≡ after (advance game position s draws).events (after (answer game line (advance game position s draws).value.state).events
    (go game (answer game line (advance game position s draws).value.state).value.position (answer game line (advance game position s draws).value.state).value.state lines (advance game position s draws).value.draws))
unfolding go
go-answers game position s line lines draws at = by_position (advance game position s draws).value.position at
  where
    t : Traced Step RoundEnd
    t = advance game position s draws

    a : Traced Step Answered
    a = answer game line t.value.state

    by_position : (p : Position) → is_prompt p ≡ true → with_line p game line lines t (λ q r ds. go game q r lines ds) ≡ after t.events (after a.events (go game a.value.position a.value.state lines t.value.draws))
    by_position Fresh is = absurd cc
    by_position (Draw head) is = absurd cc
    by_position Line is = refl
    by_position (Over ending) is = absurd cc

-- what comes after what was shown up to the prompt
after_prompt : (game : Game) (position : Position) (s : State) (draws : List ℕ) (lines : List (List ℕ)) (at : Bool) → is_prompt (advance game position s draws).value.position ≡ at
    → (rest : List Step) × ((go game position s lines draws).events ≡ (advance game position s draws).events ++ rest)
after_prompt game position s draws [] at is = ([], ap (λ w. w.events) (go-ends game position s draws) ∙ sym (append-nil (advance game position s draws).events))
after_prompt game position s draws (line ∷ lines) true is = (_, ap (λ w. w.events) (go-answers game position s line lines draws is))
after_prompt game position s draws (line ∷ lines) false is = ([], ap (λ w. w.events) (go-stops game position s (line ∷ lines) draws is) ∙ sym (append-nil (advance game position s draws).events))

-- ---- the next line and its answer

-- no line was left
pub next_ends : (old new : ConsoleView) (before : Option (List (List ℕ))) (game : Game) (s : State) (line : List ℕ) → TakesFrom before new.left (Ok End) line → new.history ≡ old.history
    → IfSome before (λ lines. AnswersNext old new game lines (Ok None) s s)
next_ends old new None game s line takes took = tt
next_ends old new (Some []) game s line takes took = (took, takes, refl)
next_ends old new (Some (next ∷ others)) game s line takes took = absurd takes

-- a line was answered
pub next_answered : {T E : Type 0} {x : T} (old mid new : ConsoleView) (before : Option (List (List ℕ))) (game : Game) (s now : State) (line : List ℕ) (position : Position)
    → TakesFrom before mid.left (Ok Got) line → mid.history ≡ grown old.history (Take line ∷ [])
    → Speaks {E = E} mid new (Ok x) (shown_of (by_heard (heard game.db line) game line s).events)
    → (by_heard (heard game.db line) game line s).value ≡ record { position = position; state = now }
    → IfSome before (λ lines. AnswersNext old new game lines (Ok (Some position)) s now)
next_answered old mid new None game s now line position takes took says leaves = tt
next_answered old mid new (Some []) game s now line position takes took says leaves = absurd takes
next_answered old mid new (Some (next ∷ others)) game s now line position takes took says leaves =
    subst (λ l. AnswersNext old new game (l ∷ others) (Ok (Some position)) s now) takes.0
    (grown_on old.history mid.history new.history (Take line ∷ []) (shown_of (by_heard (heard game.db line) game line s).events) took says.said, says.lines_stay ∙ takes.1, leaves)

-- the take failed
pub next_fails : (old new : ConsoleView) (before : Option (List (List ℕ))) (game : Game) (s : State) (fault : ConsoleFault) → new.history ≡ old.history
    → IfSome before (λ lines. AnswersNext old new game lines (Err fault) s s)
next_fails old new None game s fault same = tt
next_fails old new (Some lines) game s fault same = by_lines lines
  where
    nothing : (lines : List (List ℕ)) → GrewByPrefix old.history new.history (shown_of (next_answer game lines s))
    nothing lines = rw same (part_none old.history (shown_of (next_answer game lines s)))

    by_lines : (lines : List (List ℕ)) → AnswersNext old new game lines (Err fault) s s
    by_lines [] = nothing []
    by_lines (line ∷ others) = nothing (line ∷ others)

-- the answer failed
pub next_part : {T E : Type 0} {d : E} (old mid new : ConsoleView) (before : Option (List (List ℕ))) (game : Game) (s now : State) (line : List ℕ) (fault : ConsoleFault)
    → TakesFrom before mid.left (Ok Got) line → mid.history ≡ grown old.history (Take line ∷ [])
    → Speaks {T = T} mid new (Err d) (shown_of (by_heard (heard game.db line) game line s).events)
    → IfSome before (λ lines. AnswersNext old new game lines (Err fault) s now)
next_part old mid new None game s now line fault takes took says = tt
next_part old mid new (Some []) game s now line fault takes took says = absurd takes
next_part old mid new (Some (next ∷ others)) game s now line fault takes took says =
    subst (λ l. GrewByPrefix old.history new.history (shown_of (next_answer game (l ∷ others) s))) takes.0
    (part_on old.history mid.history new.history (Take line ∷ []) (shown_of (by_heard (heard game.db line) game line s).events) took says.part)

-- ---- where a play stands

-- what the console shows, the position, the state, the draws that are left, and how often each line
-- was tried
pub record Point : Type 0 where
  pub seen : ConsoleView
  pub position : Position
  pub state : State
  pub draws : List ℕ
  pub counts : List ℕ

-- the play that goes on from there
abbrev pub play_from : Game → Point → List (List ℕ) → Traced Step PlayEnd
play_from game p lines = go game p.position p.state lines p.draws

-- what is done up to the prompt, and where that ends
abbrev pub up_from : Game → Point → Traced Step RoundEnd
up_from game p = advance game p.position p.state p.draws

abbrev pub end_of : Point → RoundEnd
end_of p = record { position = p.position; state = p.state; draws = p.draws }

-- ---- a round: from `here` up to `up`, and then to `to`

module _ (game : Game) (here up : Point) (leaves : (up_from game here).value ≡ end_of up) where
  -- one that stopped before a line was wanted
  pub round_stops : {T : Type 0} {x : T} (before : Option (List (List ℕ))) → before ≡ here.seen.left
      → Speaks {E = ConsoleFault} here.seen up.seen (Ok x) (shown_of (up_from game here).events)
      → is_prompt up.position ≡ false → IfSome before (λ lines. GoesRound here.seen up.seen
      (Ok (record { position = up.position; stopped = true })) (play_from game here lines)
      game up.state up.draws)
  round_stops None as_rules says stops = tt
  round_stops (Some lines) as_rules says stops = record {
    went = record {
      done = (up_from game here).events;
      rest = lines;
      grew = says.said;
      lines = says.lines_stay ∙ sym as_rules;
      whole_is =
          go-stops game here.position here.state lines here.draws
          (ap (λ v. is_prompt v.position) leaves ∙ stops)
          ∙ ap (λ v. traced (up_from game here).events (record {
            position = v.position;
            state = v.state;
            lines = lines;
            draws = v.draws;
          })) leaves
          ∙ ap (λ es. traced es (record {
            position = up.position;
            state = up.state;
            lines = lines;
            draws = up.draws;
          })) (sym (append-nil (up_from game here).events));
    };
    part = tt;
  }

  module _ (to : Point) where
    -- one whose line was due, and wasn't there
    pub round_waits : {T : Type 0} {x : T} (before : Option (List (List ℕ)))
        → before ≡ here.seen.left
        → Speaks {E = ConsoleFault} here.seen up.seen (Ok x) (shown_of (up_from game here).events)
        → IfSome up.seen.left (λ lines. AnswersNext up.seen to.seen game lines (Ok None) up.state to.state)
        → IfSome before (λ lines. GoesRound here.seen to.seen
        (Ok (record { position = up.position; stopped = true })) (play_from game here lines)
        game to.state up.draws)
    round_waits None as_rules says waits = tt
    round_waits (Some lines) as_rules says waits = by_lines lines
        (subst (λ o. IfSome o (λ ls. AnswersNext up.seen to.seen game ls (Ok None) up.state to.state))
        (says.lines_stay ∙ sym as_rules) waits)
      where
        by_lines : (lines : List (List ℕ))
            → AnswersNext up.seen to.seen game lines (Ok None) up.state to.state
            → GoesRound here.seen to.seen (Ok (record { position = up.position; stopped = true }))
            (play_from game here lines) game to.state up.draws
        by_lines [] none = record {
          went = record {
            done = (up_from game here).events;
            rest = [];
            grew = none.0 ∙ says.said;
            lines = none.1;
            whole_is =
                go-ends game here.position here.state here.draws
                ∙ ap (λ v. traced (up_from game here).events (record {
                  position = v.position;
                  state = v.state;
                  lines = [];
                  draws = v.draws;
                })) leaves
                ∙ ap (λ r. traced (up_from game here).events (record {
                  position = up.position;
                  state = r;
                  lines = [];
                  draws = up.draws;
                })) (sym none.2)
                ∙ ap (λ es. traced es (record {
                  position = up.position;
                  state = to.state;
                  lines = [];
                  draws = up.draws;
                })) (sym (append-nil (up_from game here).events));
          };
          part = tt;
        }
        by_lines (line ∷ others) none = absurd none

    -- one whose line was answered
    pub round_goes : {T : Type 0} {x : T} (before : Option (List (List ℕ)))
        → before ≡ here.seen.left
        → Speaks {E = ConsoleFault} here.seen up.seen (Ok x) (shown_of (up_from game here).events)
        → is_prompt up.position ≡ true
        → IfSome up.seen.left (λ lines. AnswersNext up.seen to.seen game lines
        (Ok (Some to.position)) up.state to.state)
        → IfSome before (λ lines. GoesRound here.seen to.seen
        (Ok (record { position = to.position; stopped = false })) (play_from game here lines)
        game to.state up.draws)
    round_goes None as_rules says at goes = tt
    round_goes (Some lines) as_rules says at goes = by_lines lines
        (subst (λ o. IfSome o (λ ls. AnswersNext up.seen to.seen game ls (Ok (Some to.position))
        up.state to.state)) (says.lines_stay ∙ sym as_rules) goes)
      where
        t : Traced Step RoundEnd
        t = up_from game here

        by_lines : (lines : List (List ℕ))
            → AnswersNext up.seen to.seen game lines (Ok (Some to.position)) up.state to.state
            → GoesRound here.seen to.seen (Ok (record { position = to.position; stopped = false }))
            (play_from game here lines) game to.state up.draws
        by_lines [] some = absurd some
        by_lines (line ∷ others) some = record {
          went = record {
            done = t.events ++ (answer game line up.state).events;
            rest = others;
            grew = rw (shown_of-append t.events (answer game line up.state).events)
                (grown_on here.seen.history up.seen.history to.seen.history (shown_of t.events)
                (shown_of (answer game line up.state).events) says.said some.0);
            lines = some.1;
            whole_is =
                go-answers game here.position here.state line others here.draws
                (ap (λ v. is_prompt v.position) leaves ∙ at)
                ∙ ap (λ v. after t.events (after (answer game line v.state).events
                (go game (answer game line v.state).value.position
                (answer game line v.state).value.state others v.draws))) leaves
                ∙ ap (λ v. after t.events (after (answer game line up.state).events
                (go game v.position v.state others up.draws))) some.2
                ∙ after-after t.events (answer game line up.state).events
                (go game to.position to.state others up.draws);
          };
          part = tt;
        }

    -- one whose line couldn't be taken, or whose answer failed
    pub round_breaks : {T : Type 0} {x : T} (before : Option (List (List ℕ)))
        (fault : ConsoleFault) → before ≡ here.seen.left
        → Speaks {E = ConsoleFault} here.seen up.seen (Ok x) (shown_of (up_from game here).events)
        → is_prompt up.position ≡ true
        → IfSome up.seen.left (λ lines. AnswersNext up.seen to.seen game lines (Err fault)
        up.state to.state)
        → IfSome before (λ lines. GoesRound here.seen to.seen (Err fault)
        (play_from game here lines) game to.state up.draws)
    round_breaks None fault as_rules says at breaks = tt
    round_breaks (Some lines) fault as_rules says at breaks = by_lines lines
        (subst (λ o. IfSome o (λ ls. AnswersNext up.seen to.seen game ls (Err fault)
        up.state to.state)) (says.lines_stay ∙ sym as_rules) breaks)
      where
        t : Traced Step RoundEnd
        t = up_from game here

        by_lines : (lines : List (List ℕ))
            → AnswersNext up.seen to.seen game lines (Err fault) up.state to.state
            → GoesRound here.seen to.seen (Err fault) (play_from game here lines) game to.state
            up.draws
        by_lines [] part = record {
          went = tt;
          part = rw (ap (λ w. w.events) (go-ends game here.position here.state here.draws))
              (subst (λ es. GrewByPrefix here.seen.history to.seen.history es)
              (append-nil (shown_of t.events))
              (part_on here.seen.history up.seen.history to.seen.history (shown_of t.events) []
              says.said part));
        }
        by_lines (line ∷ others) part =
            let later = (go game (answer game line t.value.state).value.position
            (answer game line t.value.state).value.state others t.value.draws).events in
            let whole = go-answers game here.position here.state line others here.draws
            (ap (λ v. is_prompt v.position) leaves ∙ at) in
            let answered = shown_of (answer game line up.state).events in
            let grew = part_on here.seen.history up.seen.history to.seen.history (shown_of t.events)
            (answered ++ shown_of later) says.said
            (part_of_more up.seen.history to.seen.history answered (shown_of later) part) in
            let all : shown_of t.events ++ (answered ++ shown_of later)
            ≡ shown_of (play_from game here (line ∷ others)).events =
            ap (λ v. shown_of t.events ++ (shown_of (answer game line v.state).events
            ++ shown_of later)) (sym leaves)
            ∙ ap (λ es. shown_of t.events ++ es)
            (sym (shown_of-append (answer game line t.value.state).events later))
            ∙ sym (shown_of-append t.events ((answer game line t.value.state).events ++ later))
            ∙ ap (λ w. shown_of w.events) (sym whole) in
            record {
              went = tt;
              part = subst (λ es. GrewByPrefix here.seen.history to.seen.history es) all grew;
            }

-- one that failed before its prompt
pub round_fails : {T E : Type 0} {d : E} (game : Game) (here up : Point)
    (before : Option (List (List ℕ))) (fault : ConsoleFault)
    → Speaks {T = T} here.seen up.seen (Err d) (shown_of (up_from game here).events)
    → IfSome before (λ lines. GoesRound here.seen up.seen (Err fault) (play_from game here lines)
    game up.state up.draws)
round_fails game here up None fault says = tt
round_fails game here up (Some lines) fault says =
    let t = up_from game here in
    let later = after_prompt game here.position here.state here.draws lines
    (is_prompt t.value.position) refl in
    record {
      went = tt;
      part = rw (later.1, shown_of-append t.events later.0)
          (part_of_more here.seen.history up.seen.history (shown_of t.events) (shown_of later.0)
          says.part);
    }

-- ---- the whole play

-- what was shown since the first point, and the play that is still to come from here
pub record Ahead (game : Game) (first here : Point) (whole : Traced Step PlayEnd) : Type 0 where
  pub done : List Step
  pub rest : List (List ℕ)
  pub grew : here.seen.history ≡ grown first.seen.history (shown_of done)
  pub lines : here.seen.left ≡ Some rest
  pub whole_is : whole ≡ after done (play_from game here rest)

-- nothing was shown yet
pub ahead_start : (game : Game) (first : Point) (before : Option (List (List ℕ)))
    → before ≡ first.seen.left
    → IfSome before (λ lines. Ahead game first first (play_from game first lines))
ahead_start game first None as_rules = tt
ahead_start game first (Some lines) as_rules = record {
  done = [];
  rest = lines;
  grew = sym (grown-nil first.seen.history);
  lines = sym as_rules;
  whole_is = refl;
}

-- a round after those so far, from `here` on to `to`
module _ (game : Game) (first here to : Point) (whole : List (List ℕ) → Traced Step PlayEnd) where
  abbrev pub SoFar : Option (List (List ℕ)) → Type 0
  SoFar before = IfSome before (λ lines. Ahead game first here (whole lines))

  abbrev pub RoundGives : Result Round ConsoleFault → Type 0
  RoundGives r = IfSome here.seen.left (λ lines. GoesRound here.seen to.seen r
      (play_from game here lines) game to.state to.draws)

  with_round : (r : Result Round ConsoleFault) (Q : Traced Step PlayEnd → Type 0)
      → ((w : Traced Step PlayEnd) (a : Ahead game first here w)
      → GoesRound here.seen to.seen r (play_from game here a.rest) game to.state to.draws → Q w)
      → (before : Option (List (List ℕ))) → SoFar before → RoundGives r
      → IfSome before (λ lines. Q (whole lines))
  with_round r Q step None ahead round = tt
  with_round r Q step (Some lines) ahead round = step (whole lines) ahead
      (subst (λ o. IfSome o (λ ls. GoesRound here.seen to.seen r (play_from game here ls) game
      to.state to.draws)) ahead.lines round)

  -- one that goes on
  pub ahead_step : (before : Option (List (List ℕ))) (stopped : Bool) → stopped ≡ false
      → SoFar before → RoundGives (Ok (record { position = to.position; stopped = stopped }))
      → IfSome before (λ lines. Ahead game first to (whole lines))
  ahead_step before stopped goes ahead went = with_round
      (Ok (record { position = to.position; stopped = stopped })) (λ w. Ahead game first to w) step
      before ahead went
    where
      step : (w : Traced Step PlayEnd) (a : Ahead game first here w)
          → GoesRound here.seen to.seen (Ok (record { position = to.position; stopped = stopped }))
          (play_from game here a.rest) game to.state to.draws → Ahead game first to w
      step w a g = record {
        done = a.done ++ g.went.done;
        rest = g.went.rest;
        grew = rw (shown_of-append a.done g.went.done) (grown_on first.seen.history
            here.seen.history to.seen.history (shown_of a.done) (shown_of g.went.done) a.grew
            g.went.grew);
        lines = g.went.lines;
        whole_is =
            a.whole_is
            ∙ ap (after a.done) (g.went.whole_is ∙ ap (λ b. after g.went.done
            (from_there b game to.position to.state g.went.rest to.draws)) goes)
            ∙ after-after a.done g.went.done (play_from game to g.went.rest);
      }

  -- one where the play stopped
  pub ahead_end : (before : Option (List (List ℕ))) (stopped : Bool) → stopped ≡ true
      → SoFar before → RoundGives (Ok (record { position = to.position; stopped = stopped }))
      → IfSome before (λ lines.
      PlaysOut first.seen to.seen (Ok to.position) (whole lines) to.state to.draws)
  ahead_end before stopped stops ahead went = with_round
      (Ok (record { position = to.position; stopped = stopped }))
      (λ w. PlaysOut first.seen to.seen (Ok to.position) w to.state to.draws) step before ahead went
    where
      step : (w : Traced Step PlayEnd) (a : Ahead game first here w)
          → GoesRound here.seen to.seen (Ok (record { position = to.position; stopped = stopped }))
          (play_from game here a.rest) game to.state to.draws
          → PlaysOut first.seen to.seen (Ok to.position) w to.state to.draws
      step w a g =
          let is : w ≡ traced (a.done ++ (g.went.done ++ [])) (record {
            position = to.position;
            state = to.state;
            lines = g.went.rest;
            draws = to.draws;
          }) = a.whole_is ∙ ap (after a.done) (g.went.whole_is ∙ ap (λ b. after g.went.done
          (from_there b game to.position to.state g.went.rest to.draws)) stops) in
          record {
            shows =
                grown_on first.seen.history here.seen.history to.seen.history (shown_of a.done)
                (shown_of g.went.done) a.grew g.went.grew
                ∙ ap (grown first.seen.history) (sym (shown_of-append a.done g.went.done)
                ∙ ap (λ es. shown_of (a.done ++ es)) (sym (append-nil g.went.done))
                ∙ ap (λ t. shown_of t.events) (sym is));
            part = tt;
            lines = g.went.lines ∙ ap (λ t. Some t.value.lines) (sym is);
            leaves = ap (λ t. t.value) is ∙ ap (λ ls. record {
              position = to.position;
              state = to.state;
              lines = ls;
              draws = to.draws;
            }) (ap (λ t. t.value.lines) (sym is));
          }

  -- one that failed
  pub ahead_fail : (before : Option (List (List ℕ))) (d fault : ConsoleFault)
      → SoFar before → RoundGives (Err d)
      → IfSome before (λ lines.
      PlaysOut first.seen to.seen (Err fault) (whole lines) to.state to.draws)
  ahead_fail before d fault ahead went = with_round (Err d)
      (λ w. PlaysOut first.seen to.seen (Err fault) w to.state to.draws) step before ahead went
    where
      step : (w : Traced Step PlayEnd) (a : Ahead game first here w)
          → GoesRound here.seen to.seen (Err d) (play_from game here a.rest) game to.state to.draws
          → PlaysOut first.seen to.seen (Err fault) w to.state to.draws
      step w a g = record {
        shows = tt;
        part =
            let later = (play_from game here a.rest).events in
            let all : shown_of a.done ++ shown_of later ≡ shown_of w.events =
            sym (shown_of-append a.done later) ∙ ap (λ t. shown_of t.events) (sym a.whole_is) in
            subst (λ es. GrewByPrefix first.seen.history to.seen.history es) all
            (part_on first.seen.history here.seen.history to.seen.history (shown_of a.done)
            (shown_of later) a.grew g.part);
        lines = tt;
        leaves = tt;
      }

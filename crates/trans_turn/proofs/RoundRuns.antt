-- A round, whole or after its prompt.
use Rattle.std.proofs.Common.{◌≡◌, ◌∙◌, arith, ℕ, suc, ◌+◌, ◌-◌, ◌*◌, ◌≤◌, pos, true, List, [], ◌∷◌, ◌++◌, drop, length, codes, refl, sym, ap, subst, append-nil}
use Rattle.std.specs.List.{AllByRecursion}
use Rattle.adv_io.specs.Steps.{Step, Took, Traced, after, traced}
use Rattle.adv_io.specs.TypedLine.{IsTyped}
use Rattle.inform_tree.specs.declared.conditions.Relation.TheVariants.{Eq}
use Rattle.inform_tree.specs.Values as v
use Rattle.inform_tree.specs.Conditions as c
use Rattle.inform_tree.specs.Statements as t
use Rattle.inform_tree.specs.Statements.{statements}
use Rattle.inform_meaning.specs.Worlds.{Program, Scope}
use Rattle.inform_meaning.specs.Frames.{Loop}
use Rattle.inform_meaning.specs.Statements.{while_loop}
use Rattle.inform_logic.specs.Stages.{Stage}
use Rattle.inform_logic.specs.Leading.{AfterTest, TheTurns, TheBlock, Tests}
use Rattle.inform_logic.specs.Stopping.{in_block, in_call_alone, in_comparison, in_call, in_body, in_while}
use Rattle.inform_logic.proofs.Values.{within, number, call, called}
use Rattle.inform_logic.proofs.Conditions.{compare}
use Rattle.inform_logic.proofs.Changes.{no_change}
use Rattle.inform_logic.proofs.Statements.{end, next, call_alone}
use Rattle.inform_logic.proofs.Loops.{while, turn, turn_goes_on, turn_ends, while_ends}
use Rattle.inform_logic.proofs.Stops.{later, handed_up, step_stops, called_stops, test_stops}
use Rattle.scott_types.specs.declared.states.State.{State}
use Rattle.scott_types.specs.declared.endings.Position.{Position}
use Rattle.scott_types.specs.declared.endings.Position.TheVariants.{Fresh, Draw, Line, Over}
use Rattle.scott_types.specs.Database.{Database}
use Rattle.scott_types.specs.Style.{Game}
use Rattle.scott_rules.specs.Commands.{heard}
use Rattle.scott_rules.specs.Rounds.{Answered, by_heard}
use Rattle.scott_rules.specs.Play.{PlayEnd}
use Rattle.scott_rules.specs.Laws.{WordNamesLeastMatch}
use Rattle.trans_specs.specs.Standing.{Ready, HasLine}
use Rattle.trans_specs.specs.Steps.{share, text_steps, reader_steps}
use Rattle.trans_specs.specs.Rounds.{round_goes_on, round_done, round}
use Rattle.trans_specs.specs.CommandSpecs.{command_steps}
use Rattle.trans_turn.specs.RoundSpecs.{RoundParts}
use Rattle.trans_turn.proofs.Holding.{HasRound}
use Rattle.trans_turn.proofs.Parts.{PartOutcome, then_part}
use Rattle.trans_turn.proofs.Asked.{LineAsked, LineAwaited, asks, awaits}
use Rattle.trans_turn.proofs.Answered.{short_steps, AnswerDone, AnswerOutcome, answers}
use Rattle.trans_turn.proofs.Left.{LinesLeft, answer_left, lines_left}

-- ---- `while (answer() == 0) ask();`

abbrev pub is_again : c.Condition
is_again = c.Compare Eq (v.Call (codes "answer") v.NoArguments) (v.Number 0)

abbrev pub ask_statement : t.Statement
ask_statement = t.Call (codes "ask") v.NoArguments

abbrev pub ask_loop : Loop
ask_loop = while_loop is_again (statements (ask_statement ∷ []))

-- what is left of a round after its prompt
abbrev pub rest_block : t.Statements
rest_block = statements (ask_statement ∷ t.While is_again ask_loop.body ∷ [])

-- a round goes on after an answer, or is done
abbrev pub after_answer : Game → Traced Step Answered → List (List ℕ) → List ℕ → Traced Step PlayEnd
after_answer game a lines ds = after a.events (round_goes_on a.value.position
    (round_done a.value.position a.value.state lines ds)
    (round game a.value.position a.value.state lines ds))

-- ---- steps

-- of a line that is read and answered
abbrev pub line_share : Database → ℕ
line_share db = reader_steps db + 100 * share db

-- of a line that stands in the buffer, and so many more
abbrev pub turns_steps : Database → ℕ → ℕ
turns_steps db more = (more + 1) * line_share db + (command_steps db + text_steps db + 30)

-- of so many lines that are read
abbrev pub rest_steps : Database → ℕ → ℕ
rest_steps db more = more * line_share db + (command_steps db + text_steps db + 50)

abbrev pub lines_spent : List (List ℕ) → Traced Step PlayEnd → ℕ
lines_spent lines t = length lines - length t.value.lines

-- one line at least
one_line : (db : Database) (more n : ℕ)
    → n ≤ line_share db + (command_steps db + text_steps db + 30) → n ≤ turns_steps db more
one_line db more n few = omega (arith, few)

-- and one more
one_line_more : (db : Database) (more n : ℕ) → n ≤ turns_steps db more + line_share db
    → n ≤ turns_steps db (more + 1)
one_line_more db more n few = omega (arith, few)

-- a line more than the others is spent
spent_one_more : (game : Game) (line : List ℕ) (lines : List (List ℕ)) (b : Traced Step Answered)
    (ds : List ℕ) → lines_spent (line ∷ lines) (after_answer game b lines ds)
    ≡ lines_spent lines (after_answer game b lines ds) + 1
spent_one_more game line lines b ds = let left : LinesLeft lines
    (after_answer game b lines ds).value.lines =
    answer_left game b.value.position b.value.state lines ds
    (lines_left game lines b.value.position b.value.state ds) in
    omega (arith, left.few)

module _ (law : WordNamesLeastMatch) (game : Game) (p : Program) (asked : ℕ)
    (has : HasRound p asked) (parts : RoundParts game p) (d : ℕ) (room : 130 ≤ d) (scope : Scope)
  where
    -- what becomes of the loop, which takes some of these lines
    abbrev Turns : List (List ℕ) → Stage → Traced Step PlayEnd → Type 0
    Turns lines w t = PartOutcome t.value.position p (suc d) (TheTurns ask_loop) scope w game.db t
        (turns_steps game.db (lines_spent lines t))

    -- the loop, with a line in the buffer, where these are left
    abbrev TurnsFrom : List (List ℕ) → Type 0
    TurnsFrom lines = (line : List ℕ) (s : State) (w : Stage) → IsTyped line
        → AllByRecursion IsTyped lines → Ready game.db s w → HasLine line w → w.lines ≡ lines
        → Turns lines w (after_answer game (by_heard (heard game.db line) game line s) lines
        w.draws)

    module _ (w : Stage) (s : State) (es : List Step) where
      -- a turn was done, so the round is
      round_is_done : (lines : List (List ℕ)) → w.lines ≡ lines
          → AnswerOutcome Fresh p (suc d) w game.db
          (traced es (record { position = Fresh; state = s }))
          → Turns lines w
          (after_answer game (traced es (record { position = Fresh; state = s })) lines w.draws)
      round_is_done lines left a = record {
        last = a.last;
        leads = within (one_line game.db _ _ (omega arith))
            (while_ends (compare (call (called a.does)) number refl));
        leaves = record {
          noun = a.noun;
          stands = a.stands;
          past_is = a.went.past_is ∙ ap (λ fs. w.past ++ fs) (sym (append-nil es));
          lines_left = a.went.lines_stay ∙ left;
          draws_left = a.went.draws_stay;
          over_stays = a.went.over_stays;
        };
      }

      -- the game ends
      game_ends : (ending : ℕ) (lines : List (List ℕ))
          → AnswerOutcome (Over ending) p (suc d) w game.db
          (traced es (record { position = Over ending; state = s }))
          → Turns lines w
          (after_answer game (traced es (record { position = Over ending; state = s })) lines
          w.draws)
      unfolding round
      game_ends ending [] a = record {
        last = a.after;
        stops = later (λ e s'. within (one_line game.db 0 _ (omega arith)))
            (test_stops (handed_up in_comparison (handed_up in_call (called_stops a.stops))));
        shows = a.shows;
        past_is = a.past_is ∙ ap (λ fs. w.past ++ fs) (sym (append-nil es));
        over_is = a.over_is;
      }
      game_ends ending (next ∷ lines) a = record {
        last = a.after;
        stops = later (λ e s'. within (one_line game.db (length (next ∷ lines) - length
            (next ∷ lines)) _ (omega arith)))
            (test_stops (handed_up in_comparison (handed_up in_call (called_stops a.stops))));
        shows = a.shows;
        past_is = a.past_is ∙ ap (λ fs. w.past ++ fs) (sym (append-nil es));
        over_is = a.over_is;
      }

      -- a line is asked for again
      module _ (a : AnswerDone p (suc d) w (pos 0) game.db
          (traced es (record { position = Line; state = s })) (short_steps game.db)) where
        again : Tests p (suc d) is_again scope w true a.last (short_steps game.db + 1)
        again = within (omega arith) (compare (call (called a.does)) number refl)

        -- and there is none
        is_awaited : w.lines ≡ [] → Turns [] w
            (after_answer game (traced es (record { position = Line; state = s })) [] w.draws)
        unfolding round
        is_awaited left = let waits : LineAwaited p d s a.last =
            awaits p asked has.ask game.db s a.last d a.stands.ready (a.went.lines_stay ∙ left) in
            record {
              last = waits.last;
              stops = later (λ e s'. within (one_line game.db 0 _ (omega arith)))
                  (later (λ e s'. turn again) (handed_up (in_body refl) (handed_up in_block
                  (step_stops (handed_up in_call_alone (called_stops waits.stops))))));
              shows = waits.shows;
              past_is = waits.past_stays ∙ a.went.past_is
                  ∙ ap (λ fs. w.past ++ fs) (sym (append-nil es));
              over_stays = waits.over_stays ∙ a.went.over_stays;
            }

        -- and there is one
        is_asked : (line : List ℕ) (lines : List (List ℕ)) → w.lines ≡ line ∷ lines
            → IsTyped line → AllByRecursion IsTyped lines → TurnsFrom lines
            → Turns (line ∷ lines) w (after_answer game
            (traced es (record { position = Line; state = s })) (line ∷ lines) w.draws)
        unfolding round
        is_asked line lines left typed all more = let
            taken : LineAsked p d game.db s a.last line lines =
            asks p asked has.ask game.db s a.last d a.stands.ready line lines
            (a.went.lines_stay ∙ left) typed in
            let b : Traced Step Answered = by_heard (heard game.db line) game line s in
            let u : Traced Step PlayEnd = after_answer game b lines w.draws in
            let spent : lines_spent (line ∷ lines) u ≡ lines_spent lines u + 1 =
            spent_one_more game line lines b w.draws in
            let inner : Turns lines taken.last u =
            subst (λ ds. Turns lines taken.last (after_answer game b lines ds))
            (taken.draws_stay ∙ a.went.draws_stay)
            (more line s taken.last typed all taken.ready taken.has_line taken.lines_left) in
            let enough : short_steps game.db + (turns_steps game.db (lines_spent lines u) + 10)
            ≤ turns_steps game.db (lines_spent (line ∷ lines) u) =
            subst (λ n. short_steps game.db + (turns_steps game.db (lines_spent lines u) + 10)
            ≤ turns_steps game.db n) (sym spent)
            (one_line_more game.db (lines_spent lines u) _ (omega arith)) in
            let tested : PartOutcome u.value.position p (suc d) (AfterTest ask_loop true) scope
            a.last game.db (after (Took line ∷ []) u)
            (turns_steps game.db (lines_spent lines u) + 8) =
            then_part (Took line ∷ []) taken.past_is taken.over_stays
            (λ w' x. within (omega arith) (turn_goes_on refl (λ j. tt)
            (next (call_alone (called taken.does)) end) (turn_ends no_change x)))
            (λ stop w' x. later (λ e s'. within (omega arith))
            (later (λ e s'. turn_goes_on refl (λ j. tt)
            (next (call_alone (called taken.does)) end))
            (later (λ e s'. turn_ends no_change) x)))
            u.value.position game.db u inner in
            then_part es a.went.past_is a.went.over_stays
            (λ w' x. within (omega (arith, enough)) (turn again x))
            (λ stop w' x. later (λ e s'. within (omega (arith, enough)))
            (later (λ e s'. turn again) x))
            u.value.position game.db (after (Took line ∷ []) u) tested

    -- ---- the loop

    by_position : (position : Position) (s : State) (es : List Step) (w : Stage)
        (lines : List (List ℕ)) → w.lines ≡ lines → AllByRecursion IsTyped lines
        → ((line : List ℕ) (rest : List (List ℕ)) → lines ≡ line ∷ rest → TurnsFrom rest)
        → AnswerOutcome position p (suc d) w game.db
        (traced es (record { position = position; state = s }))
        → Turns lines w
        (after_answer game (traced es (record { position = position; state = s })) lines w.draws)
    by_position Fresh s es w lines left all more a = round_is_done w s es lines left a
    by_position (Draw head) s es w lines left all more a = absurd a
    by_position Line s es w [] left all more a = is_awaited w s es a left
    by_position Line s es w (line ∷ rest) left all more a =
        is_asked w s es a line rest left all.0 all.1 (more line rest refl)
    by_position (Over ending) s es w lines left all more a = game_ends w s es ending lines a

    turns : (lines : List (List ℕ)) → TurnsFrom lines
    turns [] line s w typed all ready has_line left =
        let b : Traced Step Answered = by_heard (heard game.db line) game line s in
        by_position b.value.position b.value.state b.events w [] left all (λ line rest is. cc)
        (answers law game p asked has parts d room s line w typed ready has_line)
    turns (next ∷ lines) line s w typed all ready has_line left =
        let b : Traced Step Answered = by_heard (heard game.db line) game line s in
        by_position b.value.position b.value.state b.events w (next ∷ lines) left all
        (λ line rest is. subst TurnsFrom (ap (drop 1) is) (turns lines))
        (answers law game p asked has parts d room s line w typed ready has_line)

    -- ---- `ask(); while (answer() == 0) ask();`

    abbrev Rest : List (List ℕ) → Stage → Traced Step PlayEnd → Type 0
    Rest lines w t = PartOutcome t.value.position p (suc d) (TheBlock rest_block) scope w game.db t
        (rest_steps game.db (lines_spent lines t))

    -- the rest of a round, after its prompt
    pub rest_of_round : (lines : List (List ℕ)) (s : State) (w : Stage)
        → AllByRecursion IsTyped lines → Ready game.db s w → w.lines ≡ lines
        → Rest lines w (round game Line s lines w.draws)
    unfolding round
    rest_of_round [] s w all ready left = let waits : LineAwaited p d s w =
        awaits p asked has.ask game.db s w d ready left in record {
          last = waits.last;
          stops = later (λ e s'. within (omega arith)) (handed_up in_block
              (step_stops (handed_up in_call_alone (called_stops waits.stops))));
          shows = waits.shows;
          past_is = waits.past_stays ∙ sym (append-nil w.past);
          over_stays = waits.over_stays;
        }
    rest_of_round (line ∷ lines) s w all ready left = let
        taken : LineAsked p d game.db s w line lines =
        asks p asked has.ask game.db s w d ready line lines left all.0 in
        let b : Traced Step Answered = by_heard (heard game.db line) game line s in
        let u : Traced Step PlayEnd = after_answer game b lines w.draws in
        let inner : Turns lines taken.last u =
        subst (λ ds. Turns lines taken.last (after_answer game b lines ds)) taken.draws_stay
        (turns lines line s taken.last all.0 all.1 taken.ready taken.has_line taken.lines_left) in
        let enough : turns_steps game.db (lines_spent lines u) + 10
        ≤ rest_steps game.db (lines_spent (line ∷ lines) u) =
        subst (λ n. turns_steps game.db (lines_spent lines u) + 10 ≤ rest_steps game.db n)
        (sym (spent_one_more game line lines b w.draws)) (omega arith) in
        then_part (Took line ∷ []) taken.past_is taken.over_stays
        (λ w' x. within (omega (arith, enough))
        (next (call_alone (called taken.does)) (next (while x) end)))
        (λ stop w' x. later (λ e s'. within (omega (arith, enough)))
        (later (λ e s'. next (call_alone (called taken.does)))
        (handed_up in_block (step_stops (handed_up in_while x)))))
        u.value.position game.db u inner

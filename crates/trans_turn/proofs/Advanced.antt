-- What is done up to the prompt.
use Rattle.std.proofs.Common.{◌≡◌, ◌∙◌, arith, ℕ, suc, ◌+◌, ◌*◌, ◌≤◌, ℤ, pos, List, [], ◌++◌, codes, refl, sym, ap, append-nil}
use Rattle.adv_io.specs.Steps.{Step, Traced, after, traced, said_steps}
use Rattle.inform_codes.specs.Grown.{body_of}
use Rattle.inform_meaning.specs.Worlds.{Program}
use Rattle.inform_meaning.specs.Frames.{NeedsDraw}
use Rattle.inform_logic.specs.Stages.{Stage, said}
use Rattle.inform_logic.specs.Leading.{Does, at_end}
use Rattle.inform_logic.specs.Stopping.{CallStops, in_block, in_call_alone}
use Rattle.inform_meaning.specs.Runs.{Stop}
use Rattle.inform_logic.proofs.Values.{within, called}
use Rattle.inform_logic.proofs.Printing.{said_twice, happened_then, print_nothing, print_text}
use Rattle.inform_logic.proofs.Statements.{end, next, print, call_alone}
use Rattle.inform_logic.proofs.Stops.{later, handed_up, step_stops, called_stops, routine_stops}
use Rattle.inform_logic.proofs.Routines.{does_within, routine}
use Rattle.scott_types.specs.declared.phrases.Phrase.TheVariants.{Prompt}
use Rattle.scott_types.specs.declared.states.State.{State}
use Rattle.scott_types.specs.declared.endings.Halt.{Halt}
use Rattle.scott_types.specs.declared.endings.Halt.TheVariants.{Through, Waits, Over as AtEnd}
use Rattle.scott_types.specs.declared.endings.Position.{Position}
use Rattle.scott_types.specs.declared.endings.Position.TheVariants.{Fresh, Draw, Line, Over}
use Rattle.scott_types.specs.Phrase.{text_of}
use Rattle.scott_types.specs.Database.{Database}
use Rattle.scott_types.specs.Style.{Game}
use Rattle.scott_rules.specs.Groups.{AutoOutcome, groups, automatic}
use Rattle.scott_rules.specs.Rounds.{RoundEnd, look_due, unmarked, prompted, advance}
use Rattle.trans_specs.specs.Standing.{StandsFor}
use Rattle.trans_specs.specs.Steps.{text_steps}
use Rattle.trans_specs.specs.Calls.{CallEndsGame, CallWaits}
use Rattle.trans_specs.specs.TurnSpecs.{FairStage}
use Rattle.trans_specs.specs.CommandSpecs.{search_steps}
use Rattle.trans_specs.specs.AutomaticSpecs.{AutomaticHalts, AutomaticDone}
use Rattle.trans_turn.specs.RoundSpecs.{RoundParts}
use Rattle.trans_specs.proofs.Room.{one_less}
use Rattle.trans_turn.proofs.Holding.{HasRound}
use Rattle.trans_turn.proofs.Standing.{mark_off, past_aside}
use Rattle.trans_turn.proofs.Described.{described, describes}

-- the prompt was said, and the stage stands for the state
pub record AdvanceDone (p : Program) (d : ℕ) (w : Stage) (db : Database) (t : Traced Step RoundEnd)
    (most : ℕ) : Type 0 where
  pub value : ℤ
  pub last : Stage
  pub does : Does p d (codes "advance") [] w value last most
  pub noun : List ℕ
  pub stands : StandsFor db t.value.state noun last
  pub past_is : last.past ≡ w.past ++ t.events
  pub lines_stay : last.lines ≡ w.lines
  pub draws_left : last.draws ≡ t.value.draws
  pub over_stays : last.globals (codes "over") ≡ w.globals (codes "over")

abbrev pub advance_steps : Database → ℕ
advance_steps db = search_steps db + 2 * text_steps db + 20

-- the prompt was said, a draw is waited for, or the game ends
abbrev pub AdvanceOutcome : Position → Program → ℕ → Stage → Database → Traced Step RoundEnd
    → Type 0
AdvanceOutcome Fresh p d w db t = ⊥
AdvanceOutcome (Draw head) p d w db t =
    CallWaits p d (codes "advance") [] w NeedsDraw t.value.state t.events (advance_steps db)
AdvanceOutcome Line p d w db t = AdvanceDone p d w db t (advance_steps db)
AdvanceOutcome (Over ending) p d w db t =
    CallEndsGame p d (codes "advance") [] w t.value.state t.events ending (advance_steps db)

module _ (game : Game) (p : Program) (asked : ℕ) (has : HasRound p asked)
    (parts : RoundParts game p) (d : ℕ) (room : 130 ≤ d) (s : State) (noun : List ℕ) (w : Stage)
    (stands : StandsFor game.db s noun w) where
  -- the room is described where it has to be
  look : (s : State) (noun : List ℕ) (w : Stage) → StandsFor game.db s noun w
      → Does p d (codes "describe") [] w (pos 1) (described game s w) (text_steps game.db + 4)
  look s noun w stands = one_less (λ d. Does p d (codes "describe") [] w (pos 1)
      (described game s w) (text_steps game.db + 4)) 129 d room
      (λ k few. describes game p asked parts.looks has.describe s noun w k (omega (arith, few))
      stands)

  looked_stands : (s : State) (noun : List ℕ) (w : Stage) → StandsFor game.db s noun w
      → StandsFor game.db (unmarked s) noun (described game s w)
  looked_stands s noun w stands =
      mark_off (past_aside (w.past ++ said_steps (look_due game s)) stands)

  abbrev first : Stage
  first = described game s w

  abbrev before : List Step
  before = said_steps (look_due game s)

  -- what stops the automatic step stops all
  halts : (stop : Stop) (w' : Stage) → CallStops p d (codes "automatic") [] first stop w'
      (search_steps game.db)
      → CallStops p (suc d) (codes "advance") [] w stop w' (advance_steps game.db)
  unfolding body_of
  halts stop w' x = routine_stops has.advance (later (λ e s'. within (omega arith))
      (later (λ e s'. next (call_alone (called (look s noun w stands))))
      (handed_up in_block (step_stops (handed_up in_call_alone (called_stops x))))))

  -- where the automatic step comes through, `advance` describes the room if it has to, and prompts
  through : (o : AutoOutcome) (es : List Step)
      → AutomaticDone p d (codes "automatic") first game.db (traced es o) (search_steps game.db)
      → AdvanceDone p (suc d) w game.db
      (after before (after es (prompted Through game o.state o.draws))) (advance_steps game.db)
  unfolding body_of
  through o es x = record {
    value = pos 1;
    last = said (text_of Prompt) (described game o.state x.after);
    does = does_within (omega arith) (routine has.advance
        (next (call_alone (called (look s noun w stands)))
        (next (call_alone (called x.does))
        (next (call_alone (called (look o.state x.leaves.noun x.after x.leaves.stands)))
        (next (print (print_text print_nothing)) end)))) at_end);
    noun = x.leaves.noun;
    stands = past_aside
        (said (text_of Prompt) (described game o.state x.after)).past
        (looked_stands o.state x.leaves.noun x.after x.leaves.stands);
    past_is = happened_then w.past before
        (es ++ said_steps (look_due game o.state ++ text_of Prompt)) refl
        (happened_then first.past es (said_steps (look_due game o.state ++ text_of Prompt))
        x.leaves.past_is
        (ap (λ (w' : Stage). w'.past)
        (said_twice (look_due game o.state) (text_of Prompt) x.after)));
    lines_stay = x.leaves.lines_stay;
    draws_left = x.leaves.draws_left;
    over_stays = x.leaves.over_stays;
  }

  -- `advance` does what the rules do up to the prompt, however the automatic step halts
  by_halt : (halt : Halt) (o : AutoOutcome) (es : List Step)
      → AutomaticHalts halt p d (codes "automatic") first game.db (traced es o)
      (search_steps game.db)
      → let t = after before (after es (prompted halt game o.state o.draws)) in
      AdvanceOutcome t.value.position p (suc d) w game.db t
  by_halt Through o es x = through o es x
  by_halt (Waits head) o es x = record {
    after = x.after;
    stops = halts _ x.after x.stops;
    shows = x.shows;
    past_is = happened_then w.past before (es ++ []) refl
        (x.past_is ∙ ap (λ fs. first.past ++ fs) (sym (append-nil es)));
    over_stays = x.over_stays;
  }
  by_halt (AtEnd ending) o es x = record {
    after = x.after;
    stops = halts _ x.after x.stops;
    shows = x.shows;
    past_is = happened_then w.past before (es ++ []) refl
        (x.past_is ∙ ap (λ fs. first.past ++ fs) (sym (append-nil es)));
    over_is = x.over_is;
  }

  pub advances : FairStage w
      → let t = advance game Fresh s w.draws in
      AdvanceOutcome t.value.position p (suc d) w game.db t
  advances fair = let t : Traced Step AutoOutcome =
      automatic game (groups game.db) (unmarked s) w.draws in
      by_halt t.value.halt t.value t.events
      (parts.steps (unmarked s) noun first d room
      (record { typed = fair.typed; fair = fair.fair }) (looked_stands s noun w stands))

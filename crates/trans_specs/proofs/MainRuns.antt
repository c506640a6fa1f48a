-- From the rounds of a translated game to its whole run.
use Rattle.std.proofs.Common.{◌≡◌, ◌∙◌, arith, ℕ, ℤ, pos, List, [], length, codes, Option, Some, unwrap_or, sym, ap, subst}
use Rattle.adv_io.specs.Steps.{Step, Traced, trace_of, noted}
use Rattle.inform_tree.specs.declared.widths.Width.{Width}
use Rattle.inform_tree.specs.Programs.{DirectiveTree}
use Rattle.inform_names.specs.Meanings.{meanings}
use Rattle.inform_meaning.specs.Frames.{Outcome}
use Rattle.inform_meaning.specs.Runs.{Stop, Halted, Lacking, stop_of}
use Rattle.inform_meaning.specs.Programs.{program_in, run_of}
use Rattle.inform_logic.specs.Stages.{Stage}
use Rattle.inform_logic.specs.Holding.{opening_stage}
use Rattle.inform_logic.specs.Stopping.{IsStop, stop_leaves, Stopped}
use Rattle.inform_logic.specs.Laws.{OpeningOpens, RunStops}
use Rattle.scott_types.specs.declared.endings.Ending.{Ending}
use Rattle.scott_types.specs.declared.endings.Ending.TheVariants.{Over, NeedsLine, NeedsDraw}
use Rattle.scott_types.specs.Style.{in_style}
use Rattle.scott_rules.specs.Play.{PlayEnd, ending_of, go}
use Rattle.trans_specs.specs.Names.{line_notes}
use Rattle.trans_specs.specs.Steps.{enough}
use Rattle.trans_specs.specs.Views.{Shows}
use Rattle.trans_specs.specs.Same.{EndingIs, EndsAlike}
use Rattle.trans_specs.specs.TurnSpecs.{MainPlays}
use Rattle.trans_specs.specs.Faithful.{opening_state, opening_position}
use Rattle.trans_specs.specs.Wholes.{NotedAlike, game_directives, MainIsEnough}
use Rattle.trans_specs.proofs.Written.{small_written}
use Rattle.trans_specs.proofs.Opening.{opening_stands}

-- any steps may be left where a play stops
any_left : (e : Ending) (stop : Stop) (over : Option ℤ) → EndingIs e stop over → (k : ℕ)
    → stop_leaves stop k
any_left (Over n) stop over h k = subst (λ (st : Stop). stop_leaves st k) (sym h.0) tt
any_left NeedsLine stop over h k = subst (λ (st : Stop). stop_leaves st k) (sym h.0) tt
any_left NeedsDraw stop over h k = subst (λ (st : Stop). stop_leaves st k) (sym h.0) tt

stop_is : (stop : Stop) (e : Outcome) → IsStop stop e → stop_of e ≡ stop
stop_is (Halted halt) e h = ap stop_of h
stop_is (Lacking lack) e h = ap stop_of h.1

module _ (width : Width) (ds : List DirectiveTree) (lines : List (List ℕ)) (draws : List ℕ)
    (steps : ℕ) (play : Traced Step PlayEnd) where
  -- a run that stopped as a play does, with its state and its steps
  alike : (stop : Stop) (after : Stage)
      → Stopped (run_of width ds line_notes steps lines draws) stop after
      → Shows play.value.state after → after.past ≡ play.events
      → EndsAlike play.value.position stop (after.globals (codes "over"))
      → NotedAlike width ds steps lines draws play
  alike stop after stopped shows past ends = record {
    same = record {
      traces = ap trace_of same_past;
      ends = subst (λ (st : Stop). EndsAlike play.value.position st
          ((run_of width ds line_notes steps lines draws).1.world.globals (codes "over")))
          (sym (stop_is stop (run_of width ds line_notes steps lines draws).0 stopped.is))
          (subst (λ (w : Stage). EndsAlike play.value.position stop (w.globals (codes "over")))
          (sym stopped.stage) ends);
      shows = subst (Shows play.value.state) (sym stopped.stage) shows;
    };
    same_lines = ap noted same_past;
  } where
    same_past : play.events ≡ (run_of width ds line_notes steps lines draws).1.past
    same_past = sym (ap (λ (w : Stage). w.past) stopped.stage ∙ past)

-- where `main` meets its specification, the run of the program is the play, with its notes
pub main_is_enough : OpeningOpens → RunStops → MainIsEnough
main_is_enough opens stops style width db from others t fits distinct main lines draws steps typed
    fair few = done (main (opening_state db from) []
    (opening_stage width (game_directives db from others) lines draws)
    (record { typed = typed; fair = fair })
    (opening_stands opens width db (opening_state db from) others lines draws t.limits fits
    t.none_wide distinct) over) where
      over : (opening_stage width (game_directives db from others) lines draws).globals
          (codes "over") ≡ Some (pos 0)
      over = (opens width (game_directives db from others) lines draws distinct).1.1.1.1.1.0
          ∙ ap (λ (o : Option ℤ). Some (unwrap_or o (pos 0)))
          (small_written (meanings width (game_directives db from others)) width 0 (omega arith))

      done : MainPlays (in_style style db)
          (program_in width (game_directives db from others) line_notes)
          (opening_stage width (game_directives db from others) lines draws)
          (go (in_style style db) (opening_position from) (opening_state db from) lines draws)
          → NotedAlike width (game_directives db from others) steps lines draws
          (go (in_style style db) (opening_position from) (opening_state db from) lines draws)
      done m = alike width (game_directives db from others) lines draws steps
          (go (in_style style db) (opening_position from) (opening_state db from) lines draws)
          m.stop m.after
          (stops width (game_directives db from others) line_notes lines draws m.after m.stop
          (enough db (length lines)) m.stops
          (any_left (ending_of (go (in_style style db) (opening_position from)
          (opening_state db from) lines draws).value.position) m.stop
          (m.after.globals (codes "over")) m.ends) steps few)
          m.shows m.past_is m.ends

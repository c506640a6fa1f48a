-- A play and a run that are the same.
use Rattle.std.specs.Prelude.{◌≡◌, ℤ, pos, codes, Option, Some}
use Rattle.adv_io.specs.Steps.{Step, Traced, trace_of}
use Rattle.inform_meaning.specs.Worlds.{Config}
use Rattle.inform_meaning.specs.Frames as f
use Rattle.inform_meaning.specs.Frames.{Outcome}
use Rattle.inform_meaning.specs.Runs.{Stop, Halted, Lacking, stop_of}
use Rattle.inform_logic.specs.Stages.{stage_of}
use Rattle.scott_types.specs.declared.endings.Ending.{Ending}
use Rattle.scott_types.specs.declared.endings.Ending.TheVariants.{Over, NeedsLine, NeedsDraw}
use Rattle.scott_types.specs.declared.endings.Position.{Position}
use Rattle.scott_rules.specs.Play.{PlayEnd, ending_of}
use Rattle.trans_specs.specs.Views.{Shows}

-- an ending stands with `quit` and its number in `over`, and a play that waits with a run that
-- waits for the same, and 0 in `over`
abbrev pub EndingIs : Ending → Stop → Option ℤ → Type 0
EndingIs (Over ending) stop over = (stop ≡ Halted f.Quits) × (over ≡ Some (pos ending))
EndingIs NeedsLine stop over = (stop ≡ Lacking f.NeedsLine) × (over ≡ Some (pos 0))
EndingIs NeedsDraw stop over = (stop ≡ Lacking f.NeedsDraw) × (over ≡ Some (pos 0))

abbrev pub EndsAlike : Position → Stop → Option ℤ → Type 0
EndsAlike position stop over = EndingIs (ending_of position) stop over

-- the same events in the same order, the same end, and the same state
pub record Same (play : Traced Step PlayEnd) (run : Outcome × Config) : Type 0 where
  pub traces : trace_of play.events ≡ trace_of run.1.past
  pub ends : EndsAlike play.value.position (stop_of run.0) (run.1.world.globals (codes "over"))
  pub shows : Shows play.value.state (stage_of run.1)

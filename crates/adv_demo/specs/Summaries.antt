-- How a play or a run ended.
use Rattle.std.specs.Prelude.{ℕ, ℤ, pos, List, length, codes, unwrap_or}
use Rattle.adv_io.specs.History.{lines_taken, draws_taken}
use Rattle.adv_io.specs.Steps.{Step, Traced, trace_of}
use Rattle.inform_meaning.specs.Frames as f
use Rattle.inform_meaning.specs.Frames.{Outcome}
use Rattle.inform_meaning.specs.Runs.{Stop, Halted, Lacking, stop_of}
use Rattle.inform_meaning.specs.Worlds.{World, Config}
use Rattle.scott_types.specs.declared.endings.Ending.{Ending}
use Rattle.scott_types.specs.declared.endings.Ending.TheVariants.{Over, NeedsLine, NeedsDraw}
use Rattle.scott_rules.specs.Play.{PlayEnd, ending_of}
use Rattle.adv_demo.specs.declared.summaries.End.{End}
use Rattle.adv_demo.specs.declared.summaries.End.TheVariants as e
use Rattle.adv_demo.specs.declared.summaries.Summary.{Summary}

-- how many lines and draws were taken
abbrev pub lines_used : List Step → ℕ
lines_used steps = length (lines_taken (trace_of steps))

abbrev pub draws_used : List Step → ℕ
draws_used steps = length (draws_taken (trace_of steps))

-- ---- a play

abbrev pub end_of_play : Ending → End
end_of_play (Over number) = e.Over (pos number)
end_of_play NeedsLine = e.NeedsLine
end_of_play NeedsDraw = e.NeedsDraw

abbrev pub play_summary : Traced Step PlayEnd → Summary
play_summary t = record {
  lines = lines_used t.events;
  draws = draws_used t.events;
  end = end_of_play (ending_of t.value.position);
  room = pos t.value.state.room;
  light = t.value.state.light;
}

-- ---- a run

-- by its stop, and the number in `over`
abbrev pub end_of_run : Stop → ℤ → End
end_of_run (Halted f.Quits) over = e.Over over
end_of_run (Halted (f.Trapped trap directive)) over = e.Trapped
end_of_run (Lacking f.NeedsLine) over = e.NeedsLine
end_of_run (Lacking f.NeedsDraw) over = e.NeedsDraw
end_of_run (Lacking f.Spent) over = e.Spent

-- the value of a global; 0 where there is none
abbrev pub global_of : World → List ℕ → ℤ
global_of w name = unwrap_or (w.globals name) (pos 0)

abbrev pub run_summary : Outcome × Config → Summary
run_summary t = record {
  lines = lines_used t.1.past;
  draws = draws_used t.1.past;
  end = end_of_run (stop_of t.0) (global_of t.1.world (codes "over"));
  room = global_of t.1.world (codes "here");
  light = global_of t.1.world (codes "light");
}

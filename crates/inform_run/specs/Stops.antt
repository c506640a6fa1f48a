-- Why a run stops.
use Rattle.inform_meaning.specs.Frames as f
use Rattle.inform_meaning.specs.Runs as m
use Rattle.inform_run.specs.declared.stops.Stop.{Stop}
use Rattle.inform_run.specs.declared.stops.Stop.TheVariants as s

-- why a run stopped, as the meaning has it
abbrev pub stop_seen : Stop → m.Stop
stop_seen s.Quit = m.Halted f.Quits
stop_seen s.NeedsLine = m.Lacking f.NeedsLine
stop_seen s.NeedsDraw = m.Lacking f.NeedsDraw
stop_seen (s.Trap kind directive) = m.Halted (f.Trapped kind directive)
stop_seen s.Spent = m.Lacking f.Spent

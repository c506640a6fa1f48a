-- `calls G`: an Inform program is run on the console, and then is told which of a game's lines it
-- entered.
use Rattle.std.specs.Prelude.{◌≡◌, ℕ, List, ◌++◌, length, replicate, Some}
use Rattle.std.specs.FinMap.{get}
use Rattle.adv_counts.specs.Counts.{counted}
use Rattle.adv_coverage.specs.Lines.{line_counts}
use Rattle.adv_coverage.specs.Report.{report_text}
use Rattle.adv_io.specs.declared.events.Event.{Event}
use Rattle.adv_io.specs.Console.{ConsoleView}
use Rattle.adv_io.specs.History.{says, grown, shown}
use Rattle.adv_io.specs.Shelf.{Files}
use Rattle.adv_io.specs.Steps.{trace_of}
use Rattle.inform_entered.specs.Entered.{entered}
use Rattle.inform_meaning.specs.Frames as f
use Rattle.inform_meaning.specs.Runs.{Stop, Halted, Lacking}
use Rattle.inform_names.specs.Meanings.{meanings}
use Rattle.inform_reader.specs.Reading.{IsProgram}
use Rattle.inform_tree.specs.declared.widths.Width.{Width}
use Rattle.inform_tree.specs.Programs.{DirectiveTree}
use Rattle.scott_requests.specs.Request.{RunRequest}
use Rattle.scott_tool.specs.Draws.{DrawsAre}
use Rattle.scott_tool.specs.Run.{ran, stop_after, stop_status, stop_line}

-- how often a run from the beginning enters each directive
abbrev pub entered_counts : Width → List DirectiveTree → ℕ → List (List ℕ) → List ℕ → List ℕ
entered_counts width p steps lines draws =
    counted (entered width p steps lines draws) (replicate (length p) 0)

-- the report on the routines of lines, by the counts of all directives
abbrev pub called_text : Width → List DirectiveTree → List ℕ → List ℕ
called_text width p counts = report_text (line_counts (meanings width p) counts)

-- what is said after a run that stopped so: the report, or the line of a trap or of spent steps
abbrev pub calls_end : Width → List DirectiveTree → Stop → List ℕ → List ℕ
calls_end width p (Halted f.Quits) counts = called_text width p counts
calls_end width p (Halted (f.Trapped trap at)) counts = stop_line p (Halted (f.Trapped trap at))
calls_end width p (Lacking f.NeedsLine) counts = called_text width p counts
calls_end width p (Lacking f.NeedsDraw) counts = called_text width p counts
calls_end width p (Lacking f.Spent) counts = stop_line p (Lacking f.Spent)

-- what is seen of it: what the run says and takes, and then that
abbrev pub calls_events : Width → List DirectiveTree → ℕ → List ℕ → List (List ℕ) → List Event
calls_events width p steps draws lines =
    shown (trace_of (ran width p steps lines draws).1.past)
    ++ says (calls_end width p (stop_after width p steps lines draws)
    (entered_counts width p steps lines draws))

-- What status 0, 8 or 10 means: the file is a text of a program that is accepted, and the console
-- saw what its run says and takes, with these lines and its draws, and then how often it entered
-- each routine of a line, or the line of a run that ends otherwise.
pub record Called (files : Files) (lines : List (List ℕ)) (r : RunRequest) (old new : ConsoleView)
    (status : ℕ) : Type 0 where
  pub bytes : List ℕ
  pub program : List DirectiveTree
  pub draws : List ℕ
  pub there : get files r.program ≡ Some bytes
  pub text : IsProgram r.width bytes program
  pub draws_are : DrawsAre files r.source draws
  pub ends : status ≡ stop_status (stop_after r.width program r.steps lines draws)
  pub seen : new.history
      ≡ grown old.history (calls_events r.width program r.steps draws lines)

-- `cover F`: a database is played on the console, and then is told which of its lines were tried.
use Rattle.std.specs.Prelude.{◌≡◌, ℕ, zero, suc, List, [], ◌∷◌, ◌++◌, length, Some}
use Rattle.std.specs.FinMap.{get}
use Rattle.adv_counts.specs.Counts.{count_of}
use Rattle.adv_coverage.specs.Report.{report_text}
use Rattle.adv_io.specs.declared.events.Event.{Event}
use Rattle.adv_io.specs.Console.{ConsoleView}
use Rattle.adv_io.specs.History.{says, grown, shown}
use Rattle.adv_io.specs.Shelf.{Files}
use Rattle.adv_io.specs.Steps.{Traced, Step, trace_of}
use Rattle.scott_format.specs.File.{DatText}
use Rattle.scott_requests.specs.Request.{CoverRequest}
use Rattle.scott_rules.specs.Play as rules
use Rattle.scott_rules.specs.Play.{PlayEnd}
use Rattle.scott_turn.specs.Tried.{tallied, untried}
use Rattle.scott_types.specs.declared.styles.Style.{Style}
use Rattle.scott_types.specs.Database.{Database}
use Rattle.scott_types.specs.Style.{in_style}
use Rattle.scott_tool.specs.Draws.{DrawsAre}

-- the counts of the first lines, so many, in order
abbrev pub first_counts : ℕ → List ℕ → List ℕ
first_counts zero counts = []
first_counts (suc n) counts = first_counts n counts ++ (count_of counts n ∷ [])

-- how often each line was tried in a play from the beginning
abbrev pub line_counts : Database → Traced Step PlayEnd → List ℕ
line_counts db t = first_counts (length db.actions) (tallied t.events (untried db))

-- what a play shows, and then the report
abbrev pub covered_events : Database → Traced Step PlayEnd → List Event
covered_events db t = shown (trace_of t.events) ++ says (report_text (line_counts db t))

-- the play of a database in this style, with these draws, on these lines
abbrev pub covered_play : Style → Database → List ℕ → List (List ℕ) → Traced Step PlayEnd
covered_play style db draws lines = rules.play (in_style style db) lines draws

-- What status 0 means: the file is a text of a database, and the console saw what the play of it in
-- this style says and takes, with these lines and its draws, and then how often each of its action
-- lines was tried in that play.
pub record Covered (files : Files) (lines : List (List ℕ)) (c : CoverRequest)
    (old new : ConsoleView) : Type 0 where
  pub bytes : List ℕ
  pub db : Database
  pub draws : List ℕ
  pub there : get files c.game ≡ Some bytes
  pub text : DatText bytes db
  pub draws_are : DrawsAre files c.source draws
  pub seen : new.history
      ≡ grown old.history (covered_events db (covered_play c.style db draws lines))

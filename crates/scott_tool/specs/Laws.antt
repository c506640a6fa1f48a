-- What is known of reading files, of the steps of runs, and of counts.
use Rattle.scott_format.specs.Laws.{DatabaseIn, FaultIn}
use Rattle.source_reader.specs.Laws.{SourceIn, FaultIn as SourceFaultIn}
use Rattle.adv_position.specs.Laws.{TextIsRead, BadLineIsFound}
use Rattle.inform_reader.specs.Laws.{ProgramIn, FaultIn as ProgramFaultIn}
use Rattle.inform_stepper.specs.Laws.{StepsAreShown}
use Rattle.adv_counts.specs.Laws.{CountsStay}
use Rattle.adv_coverage.specs.Alike.{LinesCountAlike}

-- what bytes read as is what they are a text of, or their first fault; the events of a run's steps,
-- one after the other, are what is shown of the run; and a game and its program count alike
pub record Laws : Type 0 where
  pub database : DatabaseIn
  pub database_fault : FaultIn
  pub source : SourceIn
  pub source_fault : SourceFaultIn
  pub program : ProgramIn
  pub program_fault : ProgramFaultIn
  pub position : TextIsRead
  pub bad_line : BadLineIsFound
  pub steps : StepsAreShown
  pub counts_stay : CountsStay
  pub lines_alike : LinesCountAlike

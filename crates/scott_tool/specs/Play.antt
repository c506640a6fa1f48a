-- `play F`: a database is played on the console, and the position is kept where it stops.
use Rattle.std.specs.Prelude.{◌≡◌, ℕ, List, Option, Some, None}
use Rattle.std.specs.FinMap.{get, insert}
use Rattle.adv_io.specs.Console.{ConsoleView}
use Rattle.adv_io.specs.History.{grown}
use Rattle.adv_io.specs.Shelf.{Files}
use Rattle.adv_position.specs.declared.saved.Saved.{Saved}
use Rattle.scott_format.specs.File.{DatText}
use Rattle.scott_requests.specs.Request.{PlayRequest}
use Rattle.scott_types.specs.Database.{Database}
use Rattle.scott_tool.specs.Draws.{DrawsAre}
use Rattle.scott_tool.specs.Position.{beginning, HasPosition, stopped_text}
use Rattle.scott_tool.specs.Work.{play_from, play_events}

-- the play opens at its beginning, or at the position of a file
abbrev pub OpensAt : Files → Database → Option (List ℕ) → Saved → Type 0
OpensAt files db None from = from ≡ beginning db
OpensAt files db (Some name) from =
    (bytes : List ℕ) × (get files name ≡ Some bytes) × HasPosition db bytes from

-- the files after a play that stopped there: the position is kept, if there is one and it is asked
-- for
abbrev pub position_kept : Files → Option (List ℕ) → Option (List ℕ) → Files
position_kept files (Some name) (Some text) = insert files name text
position_kept files _ _ = files

-- What status 0 means: the file is a text of a database, and the console saw what the play of it in
-- this style says and takes, with these lines and its draws, from the position where it opens. As
-- many draws were dropped as were taken before. Where it stops the position is kept.
pub record Played (files : Files) (lines : List (List ℕ)) (p : PlayRequest)
    (old new : ConsoleView) (after : Option Files) : Type 0 where
  pub bytes : List ℕ
  pub db : Database
  pub draws : List ℕ
  pub from : Saved
  pub there : get files p.game ≡ Some bytes
  pub text : DatText bytes db
  pub draws_are : DrawsAre files p.source draws
  pub opens : OpensAt files db p.opened_from from
  pub seen : new.history ≡ grown old.history (play_events p.style db from draws lines)
  pub kept : after ≡ Some (position_kept files p.saved_as
      (stopped_text draws (play_from p.style db from draws lines).value))

-- `transfer F P G`: an Inform program is stored that is faithful to a database from a position on.
use Rattle.std.specs.Prelude.{◌≡◌, ℕ, true, List, Option, Some}
use Rattle.std.specs.FinMap.{get, insert}
use Rattle.adv_io.specs.Shelf.{Files}
use Rattle.adv_position.specs.declared.saved.Saved.{Saved}
use Rattle.scott_format.specs.File.{DatText}
use Rattle.scott_requests.specs.Request.{TransferRequest}
use Rattle.scott_types.specs.Database.{Database}
use Rattle.translator.specs.Faithful.{Faithful}
use Rattle.scott_tool.specs.Position.{is_at_prompt, HasPosition}

-- What status 0 means: the file is a text of a database, the other one has a position of a play of
-- it that stands at its prompt, and the text of a program was stored that is faithful to the
-- database from there on: it opens after the prompt, in the state of the position.
pub record Transferred (files : Files) (t : TransferRequest) (after : Option Files) : Type 0 where
  pub bytes : List ℕ
  pub db : Database
  pub position : List ℕ
  pub from : Saved
  pub out : List ℕ
  pub there : get files t.translation.game ≡ Some bytes
  pub text : DatText bytes db
  pub position_there : get files t.opened_from ≡ Some position
  pub opens : HasPosition db position from
  pub waits : is_at_prompt from.position ≡ true
  pub faithful : Faithful t.translation.style t.translation.width db (Some from.state) out
  pub stored : after ≡ Some (insert files t.translation.program out)

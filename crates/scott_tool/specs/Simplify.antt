-- `simplify G H`: an Inform program that is simpler than another one is stored.
use Rattle.std.specs.Prelude.{◌≡◌, ℕ, List, Option, Some}
use Rattle.std.specs.FinMap.{get, insert}
use Rattle.adv_io.specs.Shelf.{Files}
use Rattle.inform_tree.specs.declared.widths.Width.{Width}
use Rattle.inform_tree.specs.Programs.{DirectiveTree}
use Rattle.inform_reader.specs.Reading.{IsProgram}
use Rattle.inform_simplify.specs.Laws.{IsSimpler}
use Rattle.scott_requests.specs.Request.{SimplifyRequest}

-- A text is simpler than a program where it is the text of a program that is. A text has one
-- program at most, so it is the program of the text.
pub record SimplerText (width : Width) (old : List DirectiveTree) (bytes : List ℕ) : Type 0 where
  pub program : List DirectiveTree
  pub text : IsProgram width bytes program
  pub simpler : IsSimpler width old program

-- What status 0 means: the file is a text of a program that is accepted, and the text of a simpler
-- one was stored: it has no redex, and runs like it, in at most as many steps.
pub record Simplified (files : Files) (s : SimplifyRequest) (after : Option Files) : Type 0 where
  pub bytes : List ℕ
  pub program : List DirectiveTree
  pub out : List ℕ
  pub there : get files s.program ≡ Some bytes
  pub text : IsProgram s.width bytes program
  pub simpler : SimplerText s.width program out
  pub stored : after ≡ Some (insert files s.simpler out)

-- `decompile F S`: the plain text of a database is stored.
use Rattle.std.specs.Prelude.{◌≡◌, ℕ, List, Option, Some}
use Rattle.std.specs.FinMap.{get, insert}
use Rattle.adv_decompiler.specs.Plain.{plain}
use Rattle.adv_io.specs.Shelf.{Files}
use Rattle.scott_format.specs.File.{DatText}
use Rattle.scott_types.specs.Database.{Database}

-- What status 0 means: the file is a text of a database, and the source that is its plain text was
-- stored.
pub record Decompiled (files : Files) (game source : List ℕ) (after : Option Files) : Type 0 where
  pub bytes : List ℕ
  pub db : Database
  pub there : get files game ≡ Some bytes
  pub text : DatText bytes db
  pub stored : after ≡ Some (insert files source (plain db))

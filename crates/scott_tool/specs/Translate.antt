-- `translate F G`: an Inform program that is faithful to a database is stored.
use Rattle.std.specs.Prelude.{◌≡◌, ℕ, List, Option, Some, None, Result, Ok, Err}
use Rattle.std.specs.FinMap.{get, insert}
use Rattle.adv_io.specs.Shelf.{Files}
use Rattle.inform_tree.specs.declared.widths.Width.{Width}
use Rattle.scott_format.specs.File.{DatText}
use Rattle.scott_types.specs.declared.styles.Style.{Style}
use Rattle.scott_types.specs.Database.{Database}
use Rattle.trans_specs.specs.Wide.{Placed, wide_at}
use Rattle.translator.specs.declared.faults.TransFault.TheVariants.{Wide}
use Rattle.translator.specs.Faithful.{Faithful}
use Rattle.scott_tool.specs.Refusal.{Unfit, unfit_by}
use Rattle.scott_tool.specs.declared.refusals.ContentFault.TheVariants.{NoTranslation}

-- a database that can be translated, or why the file that has it is refused
abbrev pub translatable_or_unfit : List ℕ → Database → Option Placed → Result Database Unfit
translatable_or_unfit name db None = Ok db
translatable_or_unfit name db (Some placed) =
    Err (unfit_by name (NoTranslation (Wide placed.0 placed.1)))

-- a number that is too wide for words of this width is refused
abbrev pub translatable : List ℕ → Width → Database → Result Database Unfit
translatable name width db = translatable_or_unfit name db (wide_at width db)

-- What status 0 means: the file is a text of a database, and the text of a program that is faithful
-- to it was stored, in this style and for words of this width.
pub record Translated (files : Files) (game program : List ℕ) (style : Style) (width : Width)
    (after : Option Files) : Type 0 where
  pub bytes : List ℕ
  pub db : Database
  pub out : List ℕ
  pub there : get files game ≡ Some bytes
  pub text : DatText bytes db
  pub faithful : Faithful style width db None out
  pub stored : after ≡ Some (insert files program out)

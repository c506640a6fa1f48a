-- A database as it is played: in a style.
use Rattle.std.specs.Prelude.{false}
use Rattle.scott_types.specs.declared.styles.Style.{Style}
use Rattle.scott_types.specs.Database.{Database}

-- nothing is different
abbrev pub plain_style : Style
plain_style = record { you = false; counted = false; vanish = false }

-- what a play needs to know: what the file says, and the style
pub record Game : Type 0 where
  pub db : Database
  pub style : Style

abbrev pub in_style : Style → Database → Game
in_style style db = record { db = db; style = style }

abbrev pub plain : Database → Game
plain db = in_style plain_style db

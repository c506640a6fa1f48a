-- What it is for a text to be faithful to a database.
use Rattle.std.specs.Prelude.{ℕ, List, Option}
use Rattle.inform_tree.specs.declared.widths.Width.{Width}
use Rattle.inform_tree.specs.Programs.{DirectiveTree}
use Rattle.inform_texts.specs.Texts.{ProgramText}
use Rattle.scott_types.specs.declared.states.State.{State}
use Rattle.scott_types.specs.declared.styles.Style.{Style}
use Rattle.scott_types.specs.Database.{Database}
use Rattle.trans_specs.specs.Faithful.{FaithfulProgram}

-- A text is faithful to a database in a style, at a width, from where it opens, where it is the
-- text of a program that is. A text has one program at most, so it is the program of the text.
pub record Faithful (style : Style) (width : Width) (db : Database) (from : Option State)
    (bytes : List ℕ) : Type 0 where
  pub program : List DirectiveTree
  pub text : ProgramText bytes program
  pub faithful : FaithfulProgram style width db from program

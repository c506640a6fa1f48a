-- `check F`: the report on a database is said.
use Rattle.std.specs.Prelude.{◌≡◌, ℕ, List, Some, Result, Ok, Err}
use Rattle.std.specs.FinMap.{get}
use Rattle.adv_check.specs.Report.{report_text}
use Rattle.adv_io.specs.Console.{ConsoleView}
use Rattle.adv_io.specs.History.{says, grown}
use Rattle.adv_io.specs.Shelf.{Files}
use Rattle.scott_format.specs.Faults.{Fault, fault_answer}
use Rattle.scott_format.specs.File.{DatText, database_in}
use Rattle.scott_types.specs.Database.{Database}
use Rattle.scott_tool.specs.Refusal.{Unfit, unfit_by}
use Rattle.scott_tool.specs.declared.refusals.ContentFault.TheVariants.{NoDatabase}

-- the database that a file's bytes read as, or its first fault
abbrev pub database_or_unfit : List ℕ → Result Database Fault → Result Database Unfit
database_or_unfit name (Ok db) = Ok db
database_or_unfit name (Err fault) =
    Err (unfit_by name (NoDatabase (fault_answer fault)))

abbrev pub database_of_file : List ℕ → List ℕ → Result Database Unfit
database_of_file name bytes = database_or_unfit name (database_in bytes)

-- What status 0 means: the file is a text of a database, and its report was said.
pub record Checked (files : Files) (game : List ℕ) (old new : ConsoleView) : Type 0 where
  pub bytes : List ℕ
  pub db : Database
  pub there : get files game ≡ Some bytes
  pub text : DatText bytes db
  pub shown : new.history ≡ grown old.history (says (report_text db))

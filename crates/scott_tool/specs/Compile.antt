-- `compile S F`: the database that a source means is stored.
use Rattle.std.specs.Prelude.{◌≡◌, ◌⊎◌, ℕ, List, Option, Some, Result, Ok, Err}
use Rattle.std.specs.FinMap.{get, insert}
use Rattle.adv_compiler.specs.Faults as meaning
use Rattle.adv_compiler.specs.Meaning.{meant}
use Rattle.adv_io.specs.Shelf.{Files}
use Rattle.scott_format.specs.Canon.{canon}
use Rattle.scott_types.specs.Database.{Database}
use Rattle.source_reader.specs.Faults as reading
use Rattle.source_reader.specs.Text.{SourceText, TextFault, source_in}
use Rattle.source_reader.specs.declared.tree.Source.{Source}
use Rattle.scott_tool.specs.Steps.{◌>>=◌}
use Rattle.scott_tool.specs.Refusal.{Unfit, unfit_by}
use Rattle.scott_tool.specs.declared.refusals.ContentFault.TheVariants.{NoSource, NoMeaning}

-- the source that a file's bytes read as, or its first fault
abbrev pub source_or_unfit : List ℕ → Result Source reading.Fault → Result Source Unfit
source_or_unfit name (Ok tree) = Ok tree
source_or_unfit name (Err fault) =
    Err (unfit_by name (NoSource (reading.fault_answer fault)))

-- the database that it means, or its first fault
abbrev pub meaning_or_unfit : List ℕ → Result Database meaning.Fault → Result Database Unfit
meaning_or_unfit name (Ok db) = Ok db
meaning_or_unfit name (Err fault) =
    Err (unfit_by name (NoMeaning (meaning.fault_answer fault)))

-- the database that a file's bytes are a source of
abbrev pub compiled_from : List ℕ → List ℕ → Result Database Unfit
compiled_from name bytes =
    source_or_unfit name (source_in bytes) >>= λ tree. meaning_or_unfit name (meant tree)

-- bytes are no source, or one that means no database
abbrev pub IsNoSource : List ℕ → Type 0
IsNoSource bytes =
    ((fault : reading.Fault) × TextFault bytes fault)
    ⊎ ((tree : Source) × (fault : meaning.Fault) × SourceText bytes tree × (meant tree ≡ Err fault))

-- What status 0 means: the file is a text of a source, and the canonical text of the database that
-- it means was stored.
pub record Compiled (files : Files) (source game : List ℕ) (after : Option Files) : Type 0 where
  pub bytes : List ℕ
  pub tree : Source
  pub db : Database
  pub there : get files source ≡ Some bytes
  pub text : SourceText bytes tree
  pub means : meant tree ≡ Ok db
  pub stored : after ≡ Some (insert files game (canon db))

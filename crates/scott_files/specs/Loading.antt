-- What the file of a database reads as.
use Rattle.std.specs.Prelude.{◌≡◌, ◌≤◌, ℕ, List, length, Result, Ok, IfOk, IfErr, OnOk, MatchResult}
use Rattle.adv_io.specs.Shelf.{ShelfView, IsFile, RefusesLoad}
use Rattle.adv_io.specs.declared.faults.ShelfFault.{ShelfFault}
use Rattle.scott_format.specs.declared.faults.FormatFault.{FormatFault}
use Rattle.scott_format.specs.declared.readers.TheConstants.{DATABASE_LIMIT}
use Rattle.scott_format.specs.File.{database_in}
use Rattle.scott_format.specs.Reading.{Stands}
use Rattle.scott_types.specs.Database.{Database}

-- bytes read as this database, or have this fault, unless memory ran out
abbrev pub Reads : Result Database FormatFault → List ℕ → Type 0
Reads read bytes =
    MatchResult read (λ db. database_in bytes ≡ Ok db) (λ fault. Stands fault (database_in bytes))

-- bytes of a file that is within the limit
pub record AreLoaded (old : ShelfView) (name bytes : List ℕ) : Type 0 where
  pub within : length bytes ≤ DATABASE_LIMIT
  pub found : IsFile old.files name bytes

-- What a call promises that reads the database of a file: what the file's bytes read as, or else
-- why they aren't loaded, as it is of bytes that are loaded at once.
pub record LoadsDb (old new : ShelfView) (name : List ℕ)
    (result : Result (Result Database FormatFault) ShelfFault) : Type 0 where
  pub found : IfOk result (λ read. (bytes : List ℕ) × Reads read bytes × AreLoaded old name bytes)
  pub refused : IfErr result (RefusesLoad old new name DATABASE_LIMIT)
  pub files_stay : new.files ≡ old.files
  pub later : old.faults ≤ new.faults
  pub steady : OnOk result (new.faults ≡ old.faults)

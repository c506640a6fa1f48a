-- What the functions that load and read a file piece by piece promise each other.
use Rattle.std.specs.Prelude.{◌≡◌, ◌<◌, ◌≤◌, ◌+◌, ◌++◌, ℕ, List, [], length, take, Option, IfSome, unwrap_or, Result, IfOk, IfErr, OnOk}
use Rattle.std.specs.FinMap.{get}
use Rattle.adv_io.specs.Shelf.{Files, ShelfView, IsFile, IsPart, RefusesLoad}
use Rattle.adv_io.specs.declared.faults.ShelfFault.{ShelfFault}
use Rattle.scott_format.specs.declared.readers.TheConstants.{DATABASE_LIMIT}
use Rattle.scott_format.specs.declared.readers.DbReader.{DbReader}
use Rattle.scott_format.specs.Readers.{HasRead, bytes_fed}

-- Where the files are known these are the first bytes of one. One that isn't there has none.
abbrev pub AreFirst : Option Files → (name bytes : List ℕ) → Type 0
AreFirst known name bytes =
    IfSome known (λ files. (rest : List ℕ) × (unwrap_or (get files name) [] ≡ bytes ++ rest))

-- a reader was fed the first bytes of a file
abbrev pub HasFirst : Option Files → List ℕ → DbReader → Type 0
HasFirst known name reader = (fed : List ℕ) × HasRead reader fed × AreFirst known name fed

-- it was fed all of them
abbrev pub HasAll : Option Files → List ℕ → DbReader → Type 0
HasAll known name reader = (fed : List ℕ) × HasRead reader fed × IsFile known name fed

-- what a call promises that loads the piece of a file from a place on, into bytes that were before
-- and are after; the result is how many bytes the piece has
pub record LoadsPiece (old new : ShelfView) (name : List ℕ) (at : ℕ) (before after : List ℕ)
    (result : Result ℕ ShelfFault) : Type 0 where
  pub room : IfOk result (λ n. n ≤ length before)
  pub within : IfOk result (λ n. at + n ≤ DATABASE_LIMIT)
  pub found : IfOk result (λ n. IsPart old.files name at (length before) (take n after))
  pub refused : IfErr result (RefusesLoad old new name DATABASE_LIMIT)
  pub files_stay : new.files ≡ old.files
  pub later : old.faults ≤ new.faults
  pub steady : OnOk result (new.faults ≡ old.faults)

-- what a call promises that loads a piece for which there is so much room, and feeds it to a reader
pub record ReadsPiece (old new : ShelfView) (name : List ℕ) (room : ℕ) (before after : DbReader)
    (result : Result ℕ ShelfFault) : Type 0 where
  pub fed : IfOk result (λ n. bytes_fed after ≡ bytes_fed before + n)
  pub within : IfOk result (λ n. bytes_fed after ≤ DATABASE_LIMIT)
  pub first : IfOk result (λ n. HasFirst old.files name after)
  pub last : IfOk result (λ n. n < room → HasAll old.files name after)
  pub refused : IfErr result (RefusesLoad old new name DATABASE_LIMIT)
  pub files_stay : new.files ≡ old.files
  pub later : old.faults ≤ new.faults
  pub steady : OnOk result (new.faults ≡ old.faults)

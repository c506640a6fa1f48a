-- What a reader has read.
use Rattle.std.specs.Prelude.{ℕ, ◌≡◌, ◌+◌, ◌≤◌, ◌⊎◌, ◌++◌, List, length, OnOk, Err}
use Rattle.adv_text.specs.Reading.{input}
use Rattle.adv_text.specs.Laws.{AreBytes}
use Rattle.scott_format.specs.declared.readers.TheConstants.{DATABASE_LIMIT}
use Rattle.scott_format.specs.declared.faults.FormatFault.TheVariants.{Memory}
use Rattle.scott_format.specs.declared.stops.Stop.TheVariants.{Fault as StopFault}
use Rattle.scott_format.specs.declared.readers.DbReader.{DbReader}
use Rattle.scott_format.specs.File.{file}
use Rattle.scott_format.specs.Pieces.{Advances}
use Rattle.scott_format.specs.Bodies.{AllInOrder, FileRead, file_from}

-- how many bytes a reader was fed
abbrev pub bytes_fed : DbReader → ℕ
bytes_fed r = r.at + length r.kept.items

-- These are all the bytes that a reader was fed. Whatever follows them, the file reads as what is
-- to be read yet from the kept bytes on, or it has the fault that was found.
pub record HasRead (r : DbReader) (fed : List ℕ) : Type 0 where
  pub all : bytes_fed r ≡ length fed
  pub within : length fed ≤ DATABASE_LIMIT
  pub bytes : AreBytes fed
  pub order : AllInOrder r.body
  pub advances : Advances file (input 0 fed) r.so_far (file_from r.body) (input r.at r.kept.items)
  pub read : OnOk r.so_far (FileRead r.body)

-- memory ran out in a feed
abbrev pub IsFailed : DbReader → Type 0
IsFailed r = r.so_far ≡ Err (StopFault Memory)

-- ---- one feed

-- A reader reads on in the bytes that it keeps and a piece after them.
pub record Reads (old : DbReader) (piece : List ℕ) (new : DbReader) : Type 0 where
  pub all : bytes_fed new ≡ bytes_fed old + length piece
  pub order : AllInOrder new.body
  pub advances : Advances (file_from old.body) (input old.at (old.kept.items ++ piece)) new.so_far
      (file_from new.body) (input new.at new.kept.items)
  pub read : OnOk new.so_far (FileRead new.body)

-- A reader keeps a piece, unless memory runs out.
abbrev pub Keeps : DbReader → List ℕ → DbReader → Type 0
Keeps old piece new =
    (new.body ≡ old.body)
    × (((new.at ≡ old.at) × (new.so_far ≡ old.so_far)
    × (new.kept.items ≡ old.kept.items ++ piece))
    ⊎ (IsFailed new × (bytes_fed new ≡ bytes_fed old + length piece)))

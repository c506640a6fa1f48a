use Rattle.std.proofs.Common.{◌≡◌, ◌<◌, ◌≤◌, ◌+◌, ◌-◌, length}
use Rattle.scott_format.specs.declared.readers.TheConstants.{DATABASE_LIMIT}
use Rattle.scott_format.specs.Readers.{bytes_fed}
use Rattle.scott_files.specs.Pieces.{HasFirst}
use Rattle.scott_files.proofs.loading.read_pieces.Given as goal

-- the reader was fed the first bytes of the file, and the shelf is as it was
abbrev pub invariant-loop-reader : goal.invariant-loop-reader
invariant-loop-reader g l =
    let seen = g.S.Shelf.seen in
    record {
      fed : bytes_fed l.reader ≡ l.at;
      within : l.at ≤ DATABASE_LIMIT;
      first : HasFirst (seen l.initial.shelf).files l.name l.reader;
      same : seen l.shelf ≡ seen l.initial.shelf;
      room : 0 < length l.piece;
    }

-- each piece but the last fills its room
abbrev pub decreases-loop-reader : goal.decreases-loop-reader
decreases-loop-reader g l = DATABASE_LIMIT + 1 - l.at

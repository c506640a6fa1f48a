use Rattle.std.proofs.Common.{arith}
use Rattle.scott_format.proofs.Answered.{bytes_are}
use Rattle.scott_format.proofs.ReaderSteps.{keeps_more}
use Rattle.scott_format.proofs.readers.DbReader.take.Goals as goal

pub returns-in-Ok-clause-read : goal.returns-in-Ok-clause-read
returns-in-Ok-clause-read c = λ fed has.
    keeps_more c.args.self.now c.keep.new.self fed c.args.piece.now has (bytes_are c.args.piece.now (λ i. omega (arith, c.type_inv.piece i))) c.requires.room c.in-Ok.is c.keep.ensures

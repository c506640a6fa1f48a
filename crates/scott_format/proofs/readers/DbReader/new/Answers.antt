use Rattle.std.proofs.Common.{refl}
use Rattle.scott_format.proofs.ReaderSteps.{nothing_read}
use Rattle.scott_format.proofs.readers.DbReader.new.Goals as goal

pub returns-clause-read : goal.returns-clause-read
returns-clause-read c = nothing_read _ refl c.new.ensures.items tt refl refl

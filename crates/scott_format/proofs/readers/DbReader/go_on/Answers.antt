use Rattle.std.proofs.Common.{Err, sym, ap, ◌∙◌, arith}
use Rattle.scott_format.specs.declared.stops.Stop.{Stop}
use Rattle.scott_format.proofs.Answered.{bytes_are}
use Rattle.scott_format.proofs.ReaderSteps.{reads_more, stops_more}
use Rattle.scott_format.proofs.readers.DbReader.go_on.Goals as goal

pub returns-in-Cut-clause-read : goal.returns-in-Cut-clause-read
returns-in-Cut-clause-read c = λ fed has.
    reads_more c.args.self.now c.read_more.new.self fed c.args.piece.now has (bytes_are c.args.piece.now (λ i. omega (arith, c.type_inv.piece i))) c.requires.room c.in-Cut.field-0
    (c.requires.stopped ∙ ap (λ (why : Stop). Err why) c.in-Cut.is) c.read_more.ensures

pub returns-in-Fault-clause-read : goal.returns-in-Fault-clause-read
returns-in-Fault-clause-read c = λ fed has.
    let found = c.requires.stopped ∙ ap (λ (why : Stop). Err why) c.in-Fault.is in
    stops_more c.args.self.now c.pass.new.self fed c.args.piece.now has (bytes_are c.args.piece.now (λ i. omega (arith, c.type_inv.piece i))) c.requires.room c.in-Fault.field-0 found
    (c.pass.ensures.so_far ∙ found) c.pass.ensures.body c.pass.ensures.all

use Rattle.std.proofs.Common.{[]}
use Rattle.scott_format.proofs.ReaderSteps.{once_value, once_fault}
use Rattle.scott_format.proofs.reading.read.Goals as goal

pub returns-clause-value : goal.returns-clause-value
returns-clause-value c =
    once_value c.args.bytes.now c.finish.result (c.finish.ensures.read c.args.bytes.now (c.feed.ensures.read [] c.in-Ok.ensures.read))

pub returns-clause-fault : goal.returns-clause-fault
returns-clause-fault c =
    once_fault c.args.bytes.now c.finish.result (c.finish.ensures.read c.args.bytes.now (c.feed.ensures.read [] c.in-Ok.ensures.read))

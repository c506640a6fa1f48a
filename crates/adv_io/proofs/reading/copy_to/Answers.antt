use Rattle.std.proofs.Common.{rules}
use Rattle.std.proofs.lemmas.Slice.{overwrites}
use Rattle.adv_io.proofs.reading.copy_to.Goals as goal

pub returns : goal.returns
returns c = search (rules, overwrites)

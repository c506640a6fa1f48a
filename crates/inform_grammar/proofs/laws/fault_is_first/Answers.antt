use Rattle.inform_grammar.proofs.FirstFaults.{fault-is-first}
use Rattle.inform_grammar.proofs.laws.fault_is_first.Goals as goal

pub returns : goal.returns
returns c room ts f e = fault-is-first c.symbols_told.ensures c.keywords_told.ensures room ts f e

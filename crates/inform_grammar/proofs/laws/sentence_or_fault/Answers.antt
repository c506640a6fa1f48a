use Rattle.inform_grammar.proofs.SaysSentences.{sentence-or-fault}
use Rattle.inform_grammar.proofs.laws.sentence_or_fault.Goals as goal

pub returns : goal.returns
returns c = sentence-or-fault c.symbols_told.ensures c.keywords_told.ensures

use Rattle.inform_grammar.proofs.SaysSentences.{read-is-sentence}
use Rattle.inform_grammar.proofs.laws.read_is_sentence.Goals as goal

pub returns : goal.returns
returns c room p ts n rest e = read-is-sentence c.symbols_told.ensures c.keywords_told.ensures room p ts n rest e

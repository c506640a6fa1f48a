use Rattle.scott_vocab.proofs.splitting.second_word.Goals as goal

pub returns-clause-value : goal.returns-clause-value
returns-clause-value c = rw c.in_ok-start.was c.word_from.ensures.value

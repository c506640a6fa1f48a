use Rattle.std.proofs.Common.{refl}
use Rattle.scott_vocab.proofs.splitting.split.Goals as goal

pub returns-clause-value : goal.returns-clause-value
returns-clause-value c = rw (c.second_word.ensures.value, c.word_from-first.ensures.value, c.bytes-bytes.ensures.value) refl

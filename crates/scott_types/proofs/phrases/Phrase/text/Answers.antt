use Rattle.std.proofs.Common.{refl}
use Rattle.scott_types.specs.Phrase.{text_of}
use Rattle.scott_types.proofs.phrases.Phrase.text.Goals as goal

pub returns-in-Prompt : goal.returns-in-Prompt
unfolding text_of
returns-in-Prompt c = rw c.in-Prompt.is refl

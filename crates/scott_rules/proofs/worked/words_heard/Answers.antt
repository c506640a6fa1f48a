use Rattle.std.proofs.Common.{refl}
use Rattle.scott_types.specs.Phrase.{text_of}
use Rattle.scott_rules.specs.Play.{go}
use Rattle.scott_rules.proofs.worked.words_heard.Goals as goal

pub returns : goal.returns
unfolding go text_of
returns c = record { synonym = refl; no_entry = refl; direction = refl; letter = refl; unknown = refl }

use Rattle.std.proofs.Common.{refl}
use Rattle.std.specs.Fmt.{digits}
use Rattle.scott_types.specs.Phrase.{text_of}
use Rattle.scott_rules.specs.Play.{go}
use Rattle.scott_rules.proofs.worked.score_goes_on.Goals as goal

pub returns : goal.returns
unfolding go text_of digits
returns c = record { events_are = refl; stopped = refl; lines_left = refl; draws_left = refl }

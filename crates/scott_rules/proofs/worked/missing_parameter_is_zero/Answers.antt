use Rattle.std.proofs.Common.{refl}
use Rattle.scott_types.specs.Phrase.{text_of}
use Rattle.scott_rules.specs.Play.{go}
use Rattle.scott_rules.proofs.worked.missing_parameter_is_zero.Goals as goal

pub returns : goal.returns
unfolding go text_of
returns c = record { events_are = refl; stopped = refl; lines_left = refl; draws_left = refl }

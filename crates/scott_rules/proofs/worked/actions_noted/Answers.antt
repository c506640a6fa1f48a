use Rattle.std.proofs.Common.{refl}
use Rattle.scott_types.specs.Phrase.{text_of}
use Rattle.scott_rules.specs.Play.{go}
use Rattle.scott_rules.proofs.worked.actions_noted.Goals as goal

pub returns : goal.returns
unfolding go text_of
returns c = record { by_chance = refl; on_the_hill = refl }

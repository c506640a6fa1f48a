use Rattle.inform_simplify.proofs.Sound.{shortened_stays_sound as law}
use Rattle.inform_simplify.proofs.laws.shortened_stays_sound.Goals as goal

-- src/laws.rt
pub returns : goal.returns
returns c = law c.faultless_places_are_fine.ensures

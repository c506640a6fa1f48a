use Rattle.inform_signature.proofs.Sound.{sound_routines_are_faultless}
use Rattle.inform_signature.proofs.laws.sound_routines_are_faultless.Goals as goal

-- src/laws.rt
pub returns : goal.returns
returns c = sound_routines_are_faultless

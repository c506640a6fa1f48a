use Rattle.inform_signature.proofs.Sound.{sound_programs_are_accepted}
use Rattle.inform_signature.proofs.laws.sound_programs_are_accepted.Goals as goal

-- src/laws.rt
pub returns : goal.returns
returns c = sound_programs_are_accepted c.meanings_are_first.ensures

use Rattle.trans_actions.proofs.Faultless.{actions_are_faultless as law}
use Rattle.trans_actions.proofs.laws.actions_are_faultless.Goals as goal

pub returns : goal.returns
returns c = law c.lines_have_words.ensures c.sound_routines_are_faultless.ensures

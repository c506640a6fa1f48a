use Rattle.trans_programs.proofs.Accepted.{programs_are_accepted as law}
use Rattle.trans_programs.proofs.laws.programs_are_accepted.Goals as goal

-- src/laws.rt
pub returns : goal.returns
returns c = law c.programs_are_distinct.ensures c.signature_is_known.ensures
    c.sound_routines_are_faultless.ensures c.sound_programs_are_accepted.ensures
    c.lines_are_there.ensures c.actions_are_faultless.ensures c.trying_is_faultless.ensures

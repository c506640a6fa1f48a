use Rattle.trans_programs.proofs.Formed.{programs_are_formed as law}
use Rattle.trans_programs.proofs.laws.programs_are_formed.Goals as goal

-- src/laws.rt
pub returns : goal.returns
returns c = law c.data_formed.ensures c.texts_formed.ensures c.words_formed.ensures
    c.actions_are_formed.ensures c.trying_is_formed.ensures c.commands_are_formed.ensures

use Rattle.trans_commands.proofs.WellFormed.{commands_formed as law}
use Rattle.trans_commands.proofs.laws.commands_are_formed.Goals as goal

pub returns : goal.returns
returns c = law

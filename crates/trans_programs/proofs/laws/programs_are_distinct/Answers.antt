use Rattle.trans_programs.proofs.Distinct.{programs_are_distinct as law}
use Rattle.trans_programs.proofs.laws.programs_are_distinct.Goals as goal

-- src/laws.rt
pub returns : goal.returns
returns c =
    law c.actions_are_named.ensures c.actions_are_distinct.ensures c.groups_are_distinct.ensures

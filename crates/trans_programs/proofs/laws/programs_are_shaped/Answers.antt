use Rattle.trans_programs.proofs.Shaped.{programs_are_shaped as law}
use Rattle.trans_programs.proofs.laws.programs_are_shaped.Goals as goal

-- src/laws.rt
pub returns : goal.returns
returns c = law c.words_call_themselves.ensures c.actions_are_named.ensures
    c.lines_are_there.ensures c.lines_alone.ensures c.actions_call_none.ensures
    c.groups_are_there.ensures c.groups_alone.ensures c.groups_are_called_once.ensures
    c.groups_call_lines.ensures

use Rattle.trans_actions.proofs.CallsNone.{actions_call_none as law}
use Rattle.trans_actions.proofs.laws.actions_call_none.Goals as goal

pub returns : goal.returns
returns c = law c.lines_have_words.ensures c.none_wide_at_32.ensures

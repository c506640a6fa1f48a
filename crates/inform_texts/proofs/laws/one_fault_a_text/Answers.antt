use Rattle.inform_texts.proofs.Texts.{one_fault_a_text as law}
use Rattle.inform_texts.proofs.laws.one_fault_a_text.Goals as goal

pub returns : goal.returns
returns c = law c.never_both.ensures c.one_token_list.ensures c.one_fault.ensures

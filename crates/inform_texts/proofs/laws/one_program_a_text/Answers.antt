use Rattle.inform_texts.proofs.Texts.{one_program_a_text as law}
use Rattle.inform_texts.proofs.laws.one_program_a_text.Goals as goal

pub returns : goal.returns
returns c = law c.one_token_list.ensures c.one_program.ensures

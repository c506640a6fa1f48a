use Rattle.inform_lexer.proofs.Exact.{tokens_are_exact, fault_is_exact}
use Rattle.inform_texts.proofs.Reading.{program_in_law as law}
use Rattle.inform_texts.proofs.laws.program_in.Goals as goal

pub returns : goal.returns
returns c =
    law tokens_are_exact fault_is_exact c.read_is_sentence.ensures c.one_program_a_text.ensures c.never_both.ensures

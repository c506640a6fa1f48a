use Rattle.inform_lexer.proofs.Exact.{tokens_or_fault as law}
use Rattle.inform_lexer.proofs.laws.tokens_or_fault.Goals as goal

pub returns : goal.returns
returns c = law

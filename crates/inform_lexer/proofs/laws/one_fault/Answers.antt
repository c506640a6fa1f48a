use Rattle.inform_lexer.proofs.Exact.{one_fault as law}
use Rattle.inform_lexer.proofs.laws.one_fault.Goals as goal

pub returns : goal.returns
returns c = law

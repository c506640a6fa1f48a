use Rattle.inform_lexer.proofs.Exact.{never_both as law}
use Rattle.inform_lexer.proofs.laws.never_both.Goals as goal

pub returns : goal.returns
returns c = law

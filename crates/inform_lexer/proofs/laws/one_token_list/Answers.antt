use Rattle.inform_lexer.proofs.Exact.{one_token_list as law}
use Rattle.inform_lexer.proofs.laws.one_token_list.Goals as goal

pub returns : goal.returns
returns c = law

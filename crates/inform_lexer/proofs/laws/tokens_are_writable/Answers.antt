use Rattle.inform_lexer.proofs.ReadLexemes.{tokens_are_writable as law}
use Rattle.inform_lexer.proofs.laws.tokens_are_writable.Goals as goal

pub returns : goal.returns
returns c = law

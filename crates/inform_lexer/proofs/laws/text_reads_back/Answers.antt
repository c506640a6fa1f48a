use Rattle.inform_lexer.proofs.WrittenLexemes.{text_reads_back as law}
use Rattle.inform_lexer.proofs.laws.text_reads_back.Goals as goal

pub returns : goal.returns
returns c = law

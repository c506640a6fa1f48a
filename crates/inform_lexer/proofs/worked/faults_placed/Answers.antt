use Rattle.std.proofs.Common.{refl}
use Rattle.inform_lexemes.specs.Symbols.{symbol_spelled}
use Rattle.inform_lexemes.specs.Keywords.{keyword_spelled}
use Rattle.inform_lexemes.specs.Lexemes.{word_lexeme}
use Rattle.inform_lexer.specs.Strings.{string_step, inside_said}
use Rattle.inform_lexer.specs.Tokens.{token_step, lexed}
use Rattle.inform_lexer.proofs.worked.faults_placed.Goals as goal

pub returns : goal.returns
unfolding lexed token_step inside_said string_step symbol_spelled keyword_spelled word_lexeme
returns c = (refl, refl, refl, refl)

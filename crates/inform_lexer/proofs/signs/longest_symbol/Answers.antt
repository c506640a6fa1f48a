use Rattle.inform_lexer.proofs.LongestSymbol.{two_left}
use Rattle.inform_lexer.proofs.signs.longest_symbol.Goals as goal

pub returns-in-len2 : goal.returns-in-len2
returns-in-len2 c = let same = two_left c.args.bytes.now c.in-len2.len_at_least c.in-len2.len_below in cc

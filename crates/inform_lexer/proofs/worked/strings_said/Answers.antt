use Rattle.std.proofs.Common.{refl}
use Rattle.inform_lexer.specs.Strings.{string_step, inside_said}
use Rattle.inform_lexer.proofs.worked.strings_said.Goals as goal

pub returns : goal.returns
unfolding string_step inside_said
returns c = (refl, refl, refl, refl, refl)

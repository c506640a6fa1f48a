use Rattle.std.proofs.Common.{refl}
use Rattle.std.specs.Fmt.{digits}
use Rattle.inform_lexer.specs.Strings.{string_step, inside_said}
use Rattle.inform_lexer.specs.Written.{string_text, written, text_of}
use Rattle.inform_lexer.proofs.worked.escapes_written.Goals as goal

pub returns : goal.returns
unfolding string_text written text_of digits inside_said string_step
returns c = (refl, refl, refl, refl, refl)

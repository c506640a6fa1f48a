use Rattle.adv_text.proofs.Written.{written_string_is_spelled}
use Rattle.adv_text.proofs.laws.written_string_is_spelled.Goals as goal

pub returns : goal.returns
returns c = written_string_is_spelled

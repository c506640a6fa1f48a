use Rattle.scott_format.proofs.Whole.{written_text_is_text}
use Rattle.scott_format.proofs.laws.written_text_is_text.Goals as goal

pub returns : goal.returns
returns c = written_text_is_text c.text_laws.ensures

use Rattle.adv_position.proofs.Whole.{texts_or_bad_lines}
use Rattle.adv_position.proofs.laws.texts_or_bad_lines.Goals as goal

pub returns : goal.returns
returns c = texts_or_bad_lines c.spelled_number_is_read.ensures c.written_number_is_spelled.ensures
    c.start_fits.ensures
